use Rattle.std.proofs.Common.{◌≡◌, ◌++◌, ◌∷◌, flat_map, take}
use Rattle.std.specs.Fmt.{decimal}
use Rattle.segment_plan.proofs.explained.push_factors.Given as goal

abbrev pub invariant-loop-factor : goal.invariant-loop-factor
invariant-loop-factor l = l.text.items ≡ l.initial.text.items ++ flat_map (λ factor. 42 ∷ decimal factor) (take l.factor-index l.factors)
