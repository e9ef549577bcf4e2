-- The rows of a CSV text, or the first thing that is wrong with it: functions of the whole list of
-- its records.
use Rattle.std.specs.Prelude.{◌≡◌, ℕ, ◌-◌, Bool, true, false, List, [], ◌∷◌, length, take, map, Result, Ok, Err, if◌then◌else◌}
use Rattle.std.specs.List.{enumerate_from, list_all}
use Rattle.csv.specs.Reading.{default_config, records, strip_bom}
use Rattle.values.specs.declared.value.Value.{Value}
use Rattle.values.specs.declared.value.Value.TheVariants.{Whole, Text}
use Rattle.table_schema.specs.declared.field.Field.{Field}
use Rattle.table_schema.specs.declared.field.Schema.{Schema}
use Rattle.csv_row.specs.declared.fault.CsvKind.{CsvKind}
use Rattle.csv_row.specs.declared.fault.CsvKind.TheVariants.{NoHeader}
use Rattle.csv_row.specs.declared.fault.CsvFault.{CsvFault}
use Rattle.csv_row.specs.declared.fault.CsvFault.TheVariants.{At, TooManyColumns}
use Rattle.csv_row.specs.InOrder.{all_or_first}
use Rattle.csv_row.specs.Row.{Limits, placed, row_at}
use Rattle.csv_ingest.specs.Names.{schema_name, number_name}

-- the records of a text, each a list of cells; one byte order mark is no part of them
abbrev pub records_of : List ℕ → List (List (List ℕ))
records_of bytes = records default_config (strip_bom bytes)

-- the name at a place of a header, from 1, read after the names before it
abbrev pub name_at : {A : Type 0} → (List (List ℕ) → List ℕ → Result A CsvKind) → List (List ℕ) → ℕ
    × List ℕ → Result A CsvFault
name_at reading header (column, name) = placed 0 column (reading (take (column - 1) header) name)

-- the names of a header, each read in turn, or the first fault
abbrev pub header_of : {A : Type 0} → (List (List ℕ) → List ℕ → Result A CsvKind) → List (List ℕ)
    → Result (List A) CsvFault
header_of reading header = all_or_first (map (name_at reading header) (enumerate_from 1 header))

-- the rows of records under a header, or the first fault
abbrev pub rows_of : Limits → List Field → List (List ℕ) → List (List (List ℕ))
    → Result (List (List Value)) CsvFault
rows_of limits fields header rows = all_or_first (map (row_at limits fields header)
    (enumerate_from 1 rows))

-- what is read with the header, or the fault of the header
abbrev pub under : {A B E : Type 0} → Result A E → (A → Result B E) → Result B E
under (Err fault) rows = Err fault
under (Ok header) rows = rows header

-- the rows of a schema's fields that the records of a text spell, or the first fault: the header's,
-- or else that of the first row that has one
unfoldable pub rows_in : Limits → List Field → List (List (List ℕ))
    → Result (List (List Value)) CsvFault
rows_in limits fields [] = Err (At NoHeader 0 0)
rows_in limits fields (header ∷ rows) = under (header_of (schema_name fields) header)
    (λ _. rows_of limits fields header rows)

-- the rows beside the schema of these fields
abbrev pub with_schema : List Field → Result (List (List Value)) CsvFault
    → Result (Schema × List (List Value)) CsvFault
with_schema fields (Err fault) = Err fault
with_schema fields (Ok rows) = Ok (record { fields = fields }, rows)

-- the value is a number, not a text
abbrev pub is_number : Value → Bool
is_number (Whole n) = true
is_number (Text text) = false

-- a row of so many whole numbers
pub record IsNumbers (columns : ℕ) (row : List Value) : Type 0 where
  pub width : length row ≡ columns
  pub numbers : list_all is_number row ≡ true

-- the same where every name of the header is a column of whole numbers, and these columns are the
-- schema
unfoldable pub number_rows_in : Limits → List (List (List ℕ))
    → Result (Schema × List (List Value)) CsvFault
number_rows_in limits [] = Err (At NoHeader 0 0)
number_rows_in limits (header ∷ rows) =
    if limits.many_columns (length header) then Err TooManyColumns
    else under (header_of number_name header) (λ fields. with_schema fields
    (rows_of limits fields header rows))
