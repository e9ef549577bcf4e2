use Rattle.std.proofs.Common.{◌≡◌, ◌<◌, ℕ, None, get_or, length}
use Rattle.segment_opening.specs.Found.{count_for}
use Rattle.segment_opening.proofs.asked.counts_for.Given as goal

abbrev pub invariant-loop-column : goal.invariant-loop-column
invariant-loop-column l = record {
  count : length l.counts.items ≡ l.column;
  each : (column : ℕ) → column < l.column → get_or l.counts.items column None ≡ count_for l.conjuncts l.found column;
}
