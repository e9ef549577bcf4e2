use Rattle.std.proofs.Common.{◌≡◌, drop}
use Rattle.segment_opening.specs.Found.{count_for}
use Rattle.segment_opening.proofs.asked.count_for.Given as goal

abbrev pub invariant-loop-at : goal.invariant-loop-at
invariant-loop-at l = count_for l.conjuncts l.found l.column ≡ count_for (drop l.at l.conjuncts) (drop l.at l.found) l.column
