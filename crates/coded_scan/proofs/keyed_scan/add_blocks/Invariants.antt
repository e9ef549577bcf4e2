use Rattle.std.proofs.Common.{◌≤◌, ◌+◌, ◌-◌, ◌*◌, ◌/◌}
use Rattle.coded_columns.specs.Keyed.{HoldsPacked}
use Rattle.coded_scan.specs.RowFilters.{all_let, passing}
use Rattle.coded_scan.proofs.keyed_scan.add_blocks.Given as goal

abbrev pub invariant-loop : goal.invariant-loop
invariant-loop l = record {
  within : l.from ≤ l.rows.segment.now.count;
  left : l.rows.segment.now.count - l.from ≤ (l.rows.segment.now.count / 4096 + 1 - l.counter) * 4096;
  holds : HoldsPacked l.rows.segment.now l.query.groups l.query.aggs (passing (λ at. all_let at l.rows.row_filters.now) 0 l.from) l.keyed;
}
