-- The columns of a segment by the ids of their values, and the rows that they are.
use Rattle.std.specs.Prelude.{◌≡◌, ◌<◌, ℕ, pos, List, map, get_or, replicate, Option, Some, None}
use Rattle.std.specs.List.{list_any}
use Rattle.values.specs.declared.value.Value.{Value}
use Rattle.values.specs.declared.value.Value.TheVariants.{Whole}
use Rattle.values.specs.Columns.{Listed, ListedColumns, is_text, row_of}
use Rattle.value_ids.specs.Coding.{values_at}
use Rattle.table_schema.specs.Conditions.{cell}
use Rattle.coded_columns.specs.declared.coded.Coded.{Coded}
use Rattle.coded_columns.specs.declared.coded.SegmentColumns.{SegmentColumns}
use Rattle.coded_columns.specs.IdColumns.{HasIds}
pub use Rattle.coded_columns.specs.IdColumns.{most_rows}

-- the value of a row in a column
abbrev pub value_in : Coded → ℕ → Value
value_in column at = get_or column.dictionary.now.values (get_or column.ids.now at 0)
    (Whole (pos 0))

-- the values of the rows in a column; in one that is not looked at each is the number 0
abbrev pub values_of : ℕ → Option Coded → List Value
values_of count None = replicate count (Whole (pos 0))
values_of count (Some column) = values_at column.dictionary.now.values column.ids.now

-- a column as a list of values, and whether these are texts
abbrev pub listed : ℕ → Option Coded → Listed
listed count column = record {
  are_texts = list_any is_text (values_of count column);
  values = values_of count column;
}

-- the rows of a segment as columns of values
abbrev pub table_of : SegmentColumns → ListedColumns
table_of segment = record {
  columns = map (listed segment.count) segment.columns.now;
  count = segment.count;
}

-- the column of a field, if it is looked at
abbrev pub column_of : SegmentColumns → ℕ → Option Coded
column_of segment field = get_or segment.columns.now field None

-- the column has the values of a field, row by row
pub record IsOfField (segment : SegmentColumns) (field : ℕ) (column : Coded) : Type 0 where
  pub ids : HasIds segment.count column
  pub each : (at : ℕ) → at < segment.count → cell (row_of (table_of segment).columns at) field
      ≡ value_in column at

-- the field is not looked at: each row has the number 0 in it
abbrev pub IsUnread : SegmentColumns → ℕ → Type 0
IsUnread segment field = (at : ℕ) → cell (row_of (table_of segment).columns at) field
    ≡ Whole (pos 0)
