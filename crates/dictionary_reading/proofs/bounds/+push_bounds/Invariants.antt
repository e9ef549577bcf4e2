use Rattle.std.proofs.Common.{◌≡◌, ◌++◌, drop, map}
use Rattle.dictionary_reading.specs.Bounds.{bounds_of, joined}
use Rattle.dictionary_reading.proofs.bounds.+push_bounds.Given as goal

abbrev pub invariant-loop-test : goal.invariant-loop-test
invariant-loop-test l = l.bounds.items ++ joined (map bounds_of (drop l.test-index l.test-items)) ≡ l.fn.bounds.items ++ bounds_of l.fn.test

abbrev pub invariant-loop-test-2 : goal.invariant-loop-test-2
invariant-loop-test-2 l = l.bounds.items ++ joined (map bounds_of (drop l.test-index l.test-items)) ≡ l.fn.bounds.items ++ bounds_of l.fn.test
