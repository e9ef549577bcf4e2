-- The rows of a segment that are read from its file, and what a scan of them does to groups.
use Rattle.std.specs.Prelude.{◌≡◌, ◌-◌, ℕ, suc, Bool, true, false, pos, List, [], ◌∷◌, Option, Some, None, IfSome, replicate}
use Rattle.std.specs.List.{list_any}
use Rattle.outside.specs.Files.{Files}
use Rattle.values.specs.declared.value.Value.{Value}
use Rattle.values.specs.declared.value.Value.TheVariants.{Whole}
use Rattle.values.specs.Columns.{Listed, ListedColumns, is_text, rows_of}
use Rattle.value_ids.specs.Coding.{values_at}
use Rattle.bit_column.specs.Column.{ids_between}
use Rattle.table_schema.specs.declared.query.BoundQuery.{BoundQuery}
use Rattle.agg_laws.specs.Numbers.{most_values}
use Rattle.table_schema.specs.ValidTable.{IsValidTable}
use Rattle.table_schema.specs.declared.table.Table.{Table}
use Rattle.segment_head.specs.Heads.{IsHeadOf, Seen}
use Rattle.segment_plan.specs.Named.{AreNamedLoaded}
use Rattle.segment_plan.specs.Matched.{values_in}
use Rattle.group_table.specs.Kept.{IsTableOf, KeptGroups, groups_in}
use Rattle.scan_engine.specs.Scanned.{AddsRows, HaveAtMost, selected}
use Rattle.coded_columns.specs.declared.coded.Coded.{Coded}
use Rattle.column_reader.specs.Forward.{forward_in, width_in}

-- the values of the rows in a column, by the ids of its forward section; in one that is not named
-- each is the number 0
abbrev pub values_read : Files → Seen → ℕ → Bool → List Value
values_read files head column false = replicate head.rows (Whole (pos 0))
values_read files head column true = values_at (values_in head column)
    (ids_between (width_in head column) 0 head.rows (forward_in files head column))

-- one column of the segment, and whether its values are texts
abbrev pub column_read : Files → Seen → ℕ → Bool → Listed
column_read files head column named = record {
  are_texts = list_any is_text
      (values_read files head column named);
  values = values_read files head column named;
}

-- the columns from one on
abbrev pub columns_read : Files → Seen → ℕ → List Bool → List Listed
columns_read files head column [] = []
columns_read files head column (named ∷ rest) = column_read files head column named
    ∷ columns_read files head (suc column) rest

-- the rows of a segment, in the columns that are named
abbrev pub table_read : Files → Seen → List Bool → ListedColumns
table_read files head named = record {
  columns = columns_read files head 0 named;
  count = head.rows;
}

-- the rows that satisfy the filter, of the rows of the segment
abbrev pub selected_read : BoundQuery → Files → Seen → List Bool → List (List Value)
selected_read query files head named = selected query (rows_of (table_read files head named))

-- some rows were added, as many as the segment has at most; where files are told, the rows of the
-- segment that satisfy the filter
pub record AddsSegment (query : BoundQuery) (held : Option Files) (head : Seen) (named : List Bool)
    (old new : KeptGroups) : Type 0 where
  pub rows : List (List Value)
  pub adds : AddsRows query head.rows rows old new
  pub told : IfSome held (λ files. rows ≡ selected_read query files head named)

-- groups of a query to which the rows of so many documents may be added
pub record HaveRoom (query : BoundQuery) (rows : ℕ) (groups : KeptGroups) : Type 0 where
  pub of_query : IsTableOf query groups
  pub fits : HaveAtMost (most_values - rows) (groups_in groups)

-- a query over a segment of a table whose head has all that the query names loaded, and groups of
-- the query to which so many rows may be added
pub record IsScannable (query : BoundQuery) (table : Table) (head : Seen) (rows : ℕ)
    (groups : KeptGroups) : Type 0 where
  pub valid : IsValidTable table
  pub of_table : IsHeadOf table head
  pub loaded : AreNamedLoaded query head
  pub of_query : IsTableOf query groups
  pub fits : HaveAtMost (most_values - rows) (groups_in groups)

-- the ids of a column beside its dictionary
abbrev pub IsCodedOf : Seen → ℕ → Option (List ℕ) → Option Coded → Type 0
IsCodedOf head column None None = Unit {0}
IsCodedOf head column None (Some coded) = ⊥
IsCodedOf head column (Some ids) None = ⊥
IsCodedOf head column (Some ids) (Some coded) = (coded.ids.now ≡ ids)
    × (coded.dictionary.now.values ≡ values_in head column)
