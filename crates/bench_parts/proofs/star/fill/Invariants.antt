use Rattle.std.proofs.Common.{◌≡◌, ◌≤◌, ◌+◌, length}
use Rattle.agg_laws.specs.Rows.{row_weight}
use Rattle.agg_laws.specs.Merged.{weights}
use Rattle.bench_parts.proofs.star.fill.Given as goal

abbrev pub invariant-loop : goal.invariant-loop
invariant-loop l = record {
  rows : length l.table.docs ≡ l.counter;
  weight_fits : weights row_weight l.table.docs ≤ l.counter;
  room : l.table.spare + l.counter ≡ l.initial.table.spare;
  dims : l.table.dims ≡ 3;
  kinds : l.table.kinds ≡ l.initial.table.kinds;
}
