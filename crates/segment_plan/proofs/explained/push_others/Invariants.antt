use Rattle.std.proofs.Common.{◌≡◌, ◌++◌, ◌∷◌, flat_map, take}
use Rattle.segment_plan.specs.Explained.{choice_word}
use Rattle.segment_plan.proofs.explained.push_others.Given as goal

abbrev pub invariant-loop-choice : goal.invariant-loop-choice
invariant-loop-choice l = l.text.items ≡ l.initial.text.items ++ flat_map (λ choice. 32 ∷ choice_word choice) (take l.choice-index l.choices)
