use Rattle.std.proofs.Common.{take}
use Rattle.segment_opening.specs.Found.{AreByIds, AreOnes}
use Rattle.segment_opening.proofs.asked.conjuncts_by.Given as goal

abbrev pub invariant-conjuncts : goal.invariant-conjuncts
invariant-conjuncts l = AreOnes l.conjuncts → AreByIds (take l.at l.conjuncts) (take l.at l.found) l.asked
