use Rattle.std.proofs.Common.{◌≡◌, drop}
use Rattle.segment_opening.specs.Found.{some_shares_none}
use Rattle.segment_opening.proofs.asked.some_shares_none.Given as goal

abbrev pub invariant-loop-at : goal.invariant-loop-at
invariant-loop-at l = some_shares_none l.conjuncts l.found l.conjuncts l.found ≡ some_shares_none l.conjuncts l.found (drop l.at l.conjuncts) (drop l.at l.found)
