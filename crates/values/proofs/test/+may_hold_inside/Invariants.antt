use Rattle.std.proofs.Common.{◌≡◌, drop, map}
use Rattle.values.specs.Tests.{may_hold, all_true, any_true}
use Rattle.values.proofs.test.+may_hold_inside.Given as goal

abbrev pub invariant-loop-test : goal.invariant-loop-test
invariant-loop-test l = may_hold l.least l.greatest l.fn.test ≡ all_true (map (may_hold l.least l.greatest) (drop l.test-index l.test-items))

abbrev pub invariant-loop-test-2 : goal.invariant-loop-test-2
invariant-loop-test-2 l = may_hold l.least l.greatest l.fn.test ≡ any_true (map (may_hold l.least l.greatest) (drop l.test-index l.test-items))
