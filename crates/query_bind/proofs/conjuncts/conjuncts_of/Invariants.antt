use Rattle.std.proofs.Common.{◌≡◌, map}
use Rattle.query_bind.specs.Conjuncts.{conjunct}
use Rattle.query_bind.proofs.conjuncts.conjuncts_of.Given as goal

abbrev pub invariant-loop-wide : goal.invariant-loop-wide
invariant-loop-wide l = l.conjuncts ≡ map conjunct l.yielded
