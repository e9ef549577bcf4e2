use Rattle.std.proofs.Common.{◌≡◌, map}
use Rattle.query_bind.specs.Conjuncts.{test_of}
use Rattle.query_bind.proofs.conjuncts.+test_of.Given as goal

abbrev pub invariant-tests_of-loop-wide : goal.invariant-tests_of-loop-wide
invariant-tests_of-loop-wide l = l.tests ≡ map test_of l.yielded
