use Rattle.std.proofs.Common.{◌≡◌, map, take}
use Rattle.segment_plan.specs.Choices.{choice_of}
use Rattle.segment_plan.proofs.choice.choices.Given as goal

abbrev pub invariant-loop-conjunct : goal.invariant-loop-conjunct
invariant-loop-conjunct l = l.choices ≡ map (choice_of l.settings l.head) (take l.conjunct-index l.conjuncts)
