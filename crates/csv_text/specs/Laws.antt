-- The text of rows is read as these rows.
use Rattle.std.specs.Prelude.{◌≡◌, List, [], Ok}
use Rattle.std.specs.List.{All, AllZip}
use Rattle.values.specs.declared.value.Value.{Value}
use Rattle.values.specs.declared.value.Value.TheVariants.{Whole, Text}
use Rattle.table_schema.specs.declared.field.Field.{Field}
use Rattle.table_schema.specs.declared.field.Schema.{Schema}
use Rattle.table_schema.specs.Valid.{IsValidSchema}
use Rattle.table_schema.specs.ValidTable.{AreRows}
use Rattle.csv_row.specs.Row.{csv_limits}
use Rattle.csv_ingest.specs.Rows.{records_of, rows_in}
use Rattle.value_ids.specs.Dictionary.{IsUnicode}
use Rattle.csv_text.specs.Rows.{rows_text}

-- an empty text is read as the default of its field, so it is one only where the default is
abbrev pub IsKept : Field → Value → Type 0
IsKept field (Whole number) = Unit {0}
IsKept field (Text text) = text ≡ [] → field.default ≡ Text []

-- no text of these rows is empty in a field whose default is another value
abbrev pub AreKept : List Field → List (List Value) → Type 0
AreKept fields rows = All (AllZip IsKept fields) rows

-- the records of the text of rows are read as these rows
abbrev pub ReadsBack : Type 0
ReadsBack =
    (schema : Schema) (rows : List (List Value)) → IsValidSchema schema
    → AreRows schema.fields rows → All (λ row. All IsUnicode row) rows
    → AreKept schema.fields rows
    → rows_in csv_limits schema.fields (records_of (rows_text schema.fields rows)) ≡ Ok rows
