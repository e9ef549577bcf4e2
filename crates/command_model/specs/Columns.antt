-- The columns that a CSV text gives over the fields of a table.
use Rattle.std.specs.Prelude.{◌≡◌, List, length, Result, IfOk}
use Rattle.std.specs.List.{All}
use Rattle.values.specs.Columns.{rows_of}
use Rattle.values.specs.declared.columns.Columns.{Columns}
use Rattle.table_store.specs.Images as dictionary
use Rattle.table_schema.specs.declared.field.Field.{Field}
use Rattle.table_schema.specs.ValidTable.{AreRows}

-- what is made has a column for each field, and its rows fit the fields and have texts in Unicode
pub record MakesColumns {E : Type 0} (fields : List Field) (result : Result Columns E)
    : Type 0 where
  pub width : IfOk result (λ columns. length columns.columns ≡ length fields)
  pub fit : IfOk result (λ columns. AreRows fields (rows_of columns))
  pub unicode : IfOk result (λ columns. All (λ row. All dictionary.IsUnicode row) (rows_of columns))
