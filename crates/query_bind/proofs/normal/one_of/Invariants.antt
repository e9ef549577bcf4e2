use Rattle.std.proofs.Common.{◌≡◌, map, take}
use Rattle.query_bind.specs.Written.{value_in}
use Rattle.query_bind.proofs.normal.one_of.Given as goal

abbrev pub invariant-loop-literal : goal.invariant-loop-literal
invariant-loop-literal l = l.values ≡ map value_in (take l.literal-index l.literals)
