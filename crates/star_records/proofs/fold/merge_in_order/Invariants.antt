use Rattle.std.proofs.Common.{◌≡◌, ◌-◌, ◌≤◌, length}
use Rattle.star_records.specs.Folding.{HasMerged}
use Rattle.star_records.proofs.fold.merge_in_order.Given as goal

abbrev pub invariant-loop-from : goal.invariant-loop-from
invariant-loop-from l = record {
  dims : l.table.dims ≡ l.shape.dims;
  within : l.from ≤ length l.words;
  merged : HasMerged l.shape.kinds l.dims l.metrics l.words l.from l.table;
}

abbrev pub decreases-loop-from : goal.decreases-loop-from
decreases-loop-from l = length l.words - l.from
