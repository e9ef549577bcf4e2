-- Columns of a table, as its dictionaries take them.
use Rattle.std.specs.Prelude.{◌≡◌, ◌≤◌, ◌<◌, ℕ, List, length, get_or}
use Rattle.std.specs.List.{All}
use Rattle.data_types.specs.declared.kind.FieldKind.{FieldKind}
use Rattle.values.specs.Columns.{Counts, Listed, ListedColumns, rows_of}
use Rattle.table_schema.specs.declared.field.Field.{Field}
use Rattle.table_schema.specs.declared.table.Table.{Table}
use Rattle.table_schema.specs.ValidTable.{AreRows, IsValidTable}
use Rattle.value_ids.specs.Dictionary.{Fits, most_values}

-- columns of one length, one a field, whose rows are rows of a table of these fields
pub record AreColumns (columns : List Field) (t : ListedColumns) : Type 0 where
  pub width : length t.columns ≡ length columns
  pub counts : All (Counts t.count) t.columns
  pub rows : AreRows columns (rows_of t)

-- the columns of the rows of a valid table
pub record AreOfTable (table : Table) (t : ListedColumns) : Type 0 where
  pub valid : IsValidTable table
  pub columns : AreColumns table.schema.fields t

-- the values of a column, of which a dictionary of the kind can be made
pub record FitsKind (kind : FieldKind) (column : Listed) : Type 0 where
  pub at_most : length column.values ≤ most_values
  pub fit : All (Fits kind) column.values

-- a dictionary can be made of each of these columns, of the kind of its field
abbrev pub ColumnsFit : Type 0
ColumnsFit = (fields : List Field) (t : ListedColumns) (at : ℕ) (field : Field) (column : Listed)
    → AreColumns fields t → at < length fields
    → field ≡ get_or fields at field → column ≡ get_or t.columns at column
    → FitsKind field.kind column
