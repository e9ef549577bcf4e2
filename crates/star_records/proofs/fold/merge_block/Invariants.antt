use Rattle.std.proofs.Common.{◌≡◌}
use Rattle.star_records.specs.Folding.{HasMerged}
use Rattle.star_records.proofs.fold.merge_block.Given as goal

abbrev pub invariant-loop-at : goal.invariant-loop-at
invariant-loop-at l = record {
  dims : l.table.dims ≡ l.fn.table.dims;
  merged : HasMerged l.fn.table.kinds l.dims l.metrics l.words l.at l.table;
}
