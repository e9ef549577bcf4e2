use Rattle.std.proofs.Common.{◌≡◌, drop}
use Rattle.segment_opening.specs.Found.{is_shared}
use Rattle.segment_opening.proofs.asked.is_shared.Given as goal

abbrev pub invariant-loop-at : goal.invariant-loop-at
invariant-loop-at l = is_shared l.conjuncts l.found l.column l.id ≡ is_shared (drop l.at l.conjuncts) (drop l.at l.found) l.column l.id
