use Rattle.std.proofs.Common.{◌≡◌, ◌<◌, ◌&&◌, ◌||◌, ℕ, true, drop, map}
use Rattle.values.specs.Columns.{row_of}
use Rattle.values.specs.Tests.{all_true, any_true}
use Rattle.table_schema.specs.Conditions.{wide_holds}
use Rattle.coded_columns.specs.Coded.{table_of}
use Rattle.coded_scan.specs.RowFilters.{covers, lets}
use Rattle.coded_scan.proofs.coded_filter.+wide_row_filter.Given as goal

abbrev pub invariant-loop-member : goal.invariant-loop-member
invariant-loop-member l = record {
  each : (at : ℕ) → at < l.segment.count → wide_holds (row_of (table_of l.segment).columns at) l.fn.wide ≡ (all_true (map (lets at) l.row_filters) && all_true (map (wide_holds (row_of (table_of l.segment).columns at)) (drop l.member-index l.member-items)));
  covers : all_true (map (covers l.segment.count) l.row_filters) ≡ true;
}

abbrev pub invariant-loop-member-2 : goal.invariant-loop-member-2
invariant-loop-member-2 l = record {
  each : (at : ℕ) → at < l.segment.count → wide_holds (row_of (table_of l.segment).columns at) l.fn.wide ≡ (any_true (map (lets at) l.row_filters) || any_true (map (wide_holds (row_of (table_of l.segment).columns at)) (drop l.member-index l.member-items)));
  covers : all_true (map (covers l.segment.count) l.row_filters) ≡ true;
}
