-- The keys of the rows that have some ids in the group columns.
use Rattle.std.specs.Prelude.{◌≡◌, ◌<◌, ℕ, List, length}
use Rattle.values.specs.declared.value.Value.{Value}
use Rattle.values.specs.Columns.{row_of}
use Rattle.agg_laws.specs.declared.states.AggState.{AggState}
use Rattle.agg_laws.specs.Numbers.{most_values}
use Rattle.agg_laws.specs.Rows.{RowFits, kinds_of}
use Rattle.table_schema.specs.Conditions.{cell}
use Rattle.group_table.specs.Groups.{key_of, with_states}
use Rattle.group_table.specs.Kept.{HaveValues, KeptGroups, groups_in}
use Rattle.coded_columns.specs.Coded.{column_of, table_of}
use Rattle.coded_columns.specs.Keys.{AreIdsAt, AreIdsOfRow, IsIdAt}
use Rattle.coded_columns.specs.declared.coded.SegmentColumns.{SegmentColumns}

-- it holds of the key of each row that has these ids in the group columns
abbrev pub OfKey : SegmentColumns → List ℕ → List ℕ → (List Value → Type 0) → Type 0
OfKey segment columns ids holds = (row : ℕ) → row < segment.count
    → AreIdsAt segment columns row ids
    → holds (key_of columns (row_of (table_of segment).columns row))

-- it holds of the value of each row that has this id in a field
abbrev pub OfId : SegmentColumns → ℕ → ℕ → (Value → Type 0) → Type 0
OfId segment field id holds = (row : ℕ) → row < segment.count
    → IsIdAt (column_of segment field) row id
    → holds (cell (row_of (table_of segment).columns row) field)

-- some row has these ids, and these states may be merged into the group of its key
pub record CanMergeIds (segment : SegmentColumns) (columns ids : List ℕ) (states : List AggState)
    (groups : KeptGroups) : Type 0 where
  pub row : AreIdsOfRow segment columns ids
  pub as_many : groups.columns ≡ length columns
  pub kinds : kinds_of states ≡ groups.kinds
  pub values : 0 < groups.columns → HaveValues states
  pub fits : OfKey segment columns ids (λ key.
      RowFits (with_states (groups_in groups) key states) most_values)
