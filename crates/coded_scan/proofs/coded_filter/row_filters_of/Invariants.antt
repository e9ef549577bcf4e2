use Rattle.std.proofs.Common.{◌≡◌, ◌<◌, ℕ, take}
use Rattle.values.specs.Columns.{row_of}
use Rattle.table_schema.specs.Conditions.{all_hold}
use Rattle.coded_columns.specs.Coded.{table_of}
use Rattle.coded_scan.specs.RowFilters.{AllCover, all_let}
use Rattle.segment_plan.specs.Served.{unserved}
use Rattle.coded_scan.proofs.coded_filter.row_filters_of.Given as goal

abbrev pub invariant-loop-at : goal.invariant-loop-at
invariant-loop-at l = record {
  lets : (row : ℕ) → row < l.segment.count → all_let row l.row_filters.items ≡ all_hold (row_of (table_of l.segment).columns row) (unserved l.choices (take l.at l.conjuncts));
  covers : AllCover l.segment.count l.row_filters.items;
}
