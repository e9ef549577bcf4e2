use Rattle.std.proofs.Common.{◌≡◌, map, take}
use Rattle.value_ids.specs.Ids.{matching}
use Rattle.segment_plan.specs.Matched.{conditions_on}
use Rattle.segment_plan.proofs.matching.matching_sets.Given as goal

abbrev pub invariant-loop-conjunct : goal.invariant-loop-conjunct
invariant-loop-conjunct l = l.sets.items ≡ map (λ condition. matching condition l.dictionary.values) (conditions_on l.column (take l.conjunct-index l.conjuncts))
