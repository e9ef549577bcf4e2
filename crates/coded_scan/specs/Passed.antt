-- The rows of a segment that conditions let through.
use Rattle.std.specs.Prelude.{◌-◌, ℕ, List, length}
use Rattle.values.specs.declared.value.Value.{Value}
use Rattle.agg_laws.specs.Numbers.{most_values}
use Rattle.table_schema.specs.declared.query.BoundQuery.{BoundQuery}
use Rattle.group_table.specs.Kept.{KeptGroups, groups_in}
use Rattle.scan_engine.specs.Places.{rows_at}
use Rattle.scan_engine.specs.Scanned.{HaveAtMost}
use Rattle.coded_columns.specs.Coded.{table_of}
use Rattle.coded_columns.specs.Keyed.{HoldsKeys}
use Rattle.coded_columns.specs.Slots.{in_slot}
use Rattle.coded_columns.specs.declared.keyed_rows.KeyedRows.{KeyedRows}
use Rattle.coded_scan.specs.RowFilters.{all_let, passing}
use Rattle.coded_scan.specs.declared.filtered_rows.FilteredRows.{FilteredRows}

-- their places
abbrev pub passed : FilteredRows → List ℕ
passed rows = passing (λ at. all_let at rows.row_filters.now) 0 rows.segment.now.count

-- the rows themselves
abbrev pub passed_rows : FilteredRows → List (List Value)
passed_rows rows = rows_at (table_of rows.segment.now).columns (passed rows)

-- those of them that have a key, where these are the keys of all
abbrev pub run_of : FilteredRows → List ℕ → ℕ → List (List Value)
run_of rows keys key = in_slot key keys (passed_rows rows)

-- by some keys of the rows what is kept is theirs, and the rows of this one may be added to groups
pub record MayMerge (query : BoundQuery) (rows : FilteredRows) (keyed : KeyedRows) (key : ℕ)
    (table : KeptGroups) : Type 0 where
  pub keys : List ℕ
  pub holds : HoldsKeys rows.segment.now query.groups query.aggs keys (passed rows) keyed
  pub fits : HaveAtMost (most_values - length (run_of rows keys key)) (groups_in table)
