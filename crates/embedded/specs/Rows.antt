-- The rows that a segment is built of: those of a CSV text, and those that a program made.
use Rattle.std.specs.Prelude.{ℕ, List, length, nat_le, nat_lt, Bool, ◌&&◌, Result, Ok, Err, if◌then◌else◌}
use Rattle.std.specs.List.{list_all}
use Rattle.values.specs.declared.value.Value.{Value}
use Rattle.csv_row.specs.Row.{csv_limits}
use Rattle.csv_row.specs.declared.fault.CsvFault.{CsvFault}
use Rattle.csv_ingest.specs.Rows.{records_of, rows_in}
use Rattle.csv_ingest.specs.Blocks.{text_limit}
use Rattle.table_schema.specs.declared.field.Field.{Field}
use Rattle.table_schema.specs.ValidTable.{is_row, most_rows}
use Rattle.embedded.specs.declared.fault.Fault.{Fault}
use Rattle.embedded.specs.declared.fault.Fault.TheVariants.{BadCsv, BadRows, TooLong}

-- rows, or why a call is refused that wants them
abbrev pub Given : Type 0
Given = Result (List (List Value)) Fault

-- rows, or the fault of the CSV text that has none
abbrev pub given_by : Result (List (List Value)) CsvFault → Given
given_by (Ok rows) = Ok rows
given_by (Err fault) = Err (BadCsv fault)

-- the rows of a CSV text over these fields
abbrev pub csv_rows : List Field → List ℕ → Given
csv_rows fields text =
    if nat_lt text_limit (length text) then Err (TooLong text_limit)
    else given_by (rows_in csv_limits fields (records_of text))

-- whether these are rows of a table of these fields, no more than there may be
abbrev pub are_rows : List Field → List (List Value) → Bool
are_rows fields rows = nat_le (length rows) (most_rows (length fields))
    && list_all (is_row fields) rows

-- the rows that a program made, where they are such
abbrev pub own_rows : List Field → List (List Value) → Given
own_rows fields rows = if are_rows fields rows then Ok rows else Err BadRows
