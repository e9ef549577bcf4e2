use Rattle.std.proofs.Common.{◌≡◌, drop, map}
use Rattle.values.specs.Tests.{holds, all_true, any_true}
use Rattle.values.proofs.test.+holds_value.Given as goal

abbrev pub invariant-loop-test : goal.invariant-loop-test
invariant-loop-test l = holds l.value l.fn.test ≡ all_true (map (holds l.value) (drop l.test-index l.test-items))

abbrev pub invariant-loop-test-2 : goal.invariant-loop-test-2
invariant-loop-test-2 l = holds l.value l.fn.test ≡ any_true (map (holds l.value) (drop l.test-index l.test-items))
