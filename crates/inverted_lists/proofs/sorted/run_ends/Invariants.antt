use Rattle.std.proofs.Common.{◌≡◌}
use Rattle.bit_column.specs.SortedRuns.{runs}
use Rattle.inverted_lists.specs.Cuts.{Cut}
use Rattle.inverted_lists.proofs.sorted.run_ends.Given as goal

abbrev pub invariant-loop-id : goal.invariant-loop-id
invariant-loop-id l = record {
  ends : l.ends.items ≡ runs l.id l.ids;
  cut : Cut l.ids l.id l.first;
}
