-- Columns by the places of their values, and the rows in them.
use Rattle.std.specs.Prelude.{◌≡◌, ◌<◌, ℕ, false, List, length, map}
use Rattle.values.specs.Columns.{Listed, ListedColumns}
use Rattle.values.specs.declared.value.Value.{Value}
use Rattle.value_ids.specs.Coding.{AreBelow, values_at}
use Rattle.csv_text.specs.declared.coded.CodedColumn.{CodedColumn}

-- the values by their places
abbrev pub values_of : CodedColumn → List Value
values_of column = column.dictionary.now.values

-- there is a place for each of so many rows, and a value at it
pub record IsCodedColumn (rows : ℕ) (column : CodedColumn) : Type 0 where
  pub count : length column.ids ≡ rows
  pub below : AreBelow (length (values_of column)) column.ids

-- there is a place for this row, and a value at each place
pub record HasRow (row : ℕ) (column : CodedColumn) : Type 0 where
  pub within : row < length column.ids
  pub below : AreBelow (length (values_of column)) column.ids

-- the values of the rows
abbrev pub listed : CodedColumn → Listed
listed column = record {
  are_texts = false;
  values = values_at (values_of column) column.ids;
}

-- so many rows in these columns
abbrev pub listed_columns : ℕ → List CodedColumn → ListedColumns
listed_columns rows columns = record { columns = map listed columns; count = rows }
