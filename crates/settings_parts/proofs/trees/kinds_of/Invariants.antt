use Rattle.std.proofs.Common.{◌≡◌, map, take}
use Rattle.settings_parts.proofs.trees.kinds_of.Given as goal

abbrev pub invariant-loop-pair : goal.invariant-loop-pair
invariant-loop-pair l = l.kinds ≡ map (λ p. p.kind) (take l.pair-index l.pairs)
