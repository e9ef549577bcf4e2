-- The row that one record of a CSV text spells, or the first thing that is wrong with it.
use Rattle.std.specs.Prelude.{ℕ, ◌-◌, nat_lt, Bool, not, ◌==◌, List, [], ◌∷◌, length, map, slice_index_or, Option, Some, None, Result, Ok, Err, if◌then◌else◌}
use Rattle.std.specs.List.{position_from}
use Rattle.std.specs.Str.{bytes_eq, is_utf8}
use Rattle.values.specs.Reading.{value_of}
use Rattle.data_types.specs.declared.kind.FieldKind.{FieldKind}
use Rattle.values.specs.declared.value.Value.{Value}
use Rattle.values.specs.declared.read.ValueFault.{ValueFault}
use Rattle.values.specs.declared.read.ValueFault.TheVariants as refused
use Rattle.table_schema.specs.declared.field.Field.{Field}
use Rattle.table_schema.specs.ValidTable.{most_rows}
use Rattle.csv_row.specs.declared.fault.CsvKind.{CsvKind}
use Rattle.csv_row.specs.declared.fault.CsvKind.TheVariants.{NotUtf8, WrongLength, NotANumber, OutOfRange, TooLong}
use Rattle.csv_row.specs.declared.fault.CsvFault.{CsvFault}
use Rattle.csv_row.specs.declared.fault.CsvFault.TheVariants.{At, TooManyRows}
use Rattle.csv_row.specs.InOrder.{all_or_first}

-- which numbers of columns are too many, and how many rows of so many fields are the most
pub record Limits : Type 0 where
  pub many_columns : ℕ → Bool
  pub most_rows : ℕ → ℕ

-- the most columns of a file that is read without a schema
abbrev pub most_columns : ℕ
most_columns = 64

-- the limits on columns and on rows
abbrev pub csv_limits : Limits
csv_limits = record { many_columns = λ n. nat_lt most_columns n; most_rows = most_rows }

-- records after the header count from 1, and the header is 0; cells of a record count from 1
abbrev pub placed : {A : Type 0} → ℕ → ℕ → Result A CsvKind → Result A CsvFault
placed row column (Ok a) = Ok a
placed row column (Err kind) = Err (At kind row column)

-- the place of a field in a header, from 1, if its name is there
abbrev pub place_of : List (List ℕ) → Field → Option ℕ
place_of header field = position_from (bytes_eq field.name) 1 header

-- a value as it is, and the fault of a text as that of a cell
abbrev pub kinded : Result Value ValueFault → Result Value CsvKind
kinded (Ok value) = Ok value
kinded (Err refused.NotANumber) = Err NotANumber
kinded (Err refused.OutOfRange) = Err OutOfRange
kinded (Err _) = Err TooLong

-- the value that the bytes of a cell are
abbrev pub value_in : FieldKind → List ℕ → Result Value CsvKind
value_in kind bytes = if is_utf8 bytes then kinded (value_of kind bytes) else Err NotUtf8

-- the same, or the field's default where the cell is empty
abbrev pub cell_value : Field → List ℕ → Result Value CsvKind
cell_value field [] = Ok field.default
cell_value field (b ∷ bytes) = value_in field.kind (b ∷ bytes)

-- the value of a field whose place in the header is this, in a record
abbrev pub value_at : ℕ → List (List ℕ) → Field → Option ℕ → Result Value CsvFault
value_at row cells field None = Ok field.default
value_at row cells field (Some column) = placed row column (cell_value field
    (slice_index_or cells (column - 1) []))

-- the values of a record, field by field of the schema
abbrev pub values_of : List Field → List (List ℕ) → ℕ → List (List ℕ) → Result (List Value) CsvFault
values_of fields header row cells = all_or_first (map (λ field.
    value_at row cells field (place_of header field)) fields)

-- the row of a number, from 1
abbrev pub row_at : Limits → List Field → List (List ℕ) → ℕ × List (List ℕ)
    → Result (List Value) CsvFault
row_at limits fields header (row, cells) =
    if nat_lt (limits.most_rows (length fields)) row then Err
    (TooManyRows (limits.most_rows (length fields)))
    else if not (length cells == length header) then Err (At WrongLength row 0)
    else values_of fields header row cells
