use Rattle.std.proofs.Common.{take}
use Rattle.segment_plan.specs.Matched.{values_in}
use Rattle.star_answer.specs.Tasks.{AreMatched}
use Rattle.star_answer.proofs.intersection.matched_ids.Given as goal

abbrev pub invariant-loop-conjunct : goal.invariant-loop-conjunct
invariant-loop-conjunct l =
    AreMatched (take l.conjunct-index l.conjuncts) l.column (values_in l.head l.column) l.met
