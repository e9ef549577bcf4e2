-- Texts in rows are UTF-8.
use Rattle.std.specs.Prelude.{◌≡◌, ℕ, List, Ok}
use Rattle.std.specs.List.{AllByRecursion}
use Rattle.std.specs.Str.{IsUtf8}
use Rattle.values.specs.declared.value.Value.{Value}
use Rattle.values.specs.declared.value.Value.TheVariants.{Whole, Text}
use Rattle.table_schema.specs.declared.field.Field.{Field}
use Rattle.csv_row.specs.Row.{csv_limits}
use Rattle.csv_ingest.specs.Rows.{rows_in}

-- a number, or a text that is UTF-8
abbrev pub IsUnicode : Value → Type 0
IsUnicode (Whole number) = Unit {0}
IsUnicode (Text text) = IsUtf8 text

-- where the defaults are, all values of the rows that records spell are UTF-8
abbrev pub RowsAreUnicode : Type 0
RowsAreUnicode =
    (fields : List Field) (records : List (List (List ℕ))) (rows : List (List Value))
    → AllByRecursion (λ field. IsUnicode field.default) fields
    → rows_in csv_limits fields records ≡ Ok rows → AllByRecursion (AllByRecursion IsUnicode) rows
