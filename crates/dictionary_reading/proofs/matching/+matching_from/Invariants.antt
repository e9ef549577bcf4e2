use Rattle.std.proofs.Common.{drop}
use Rattle.dictionary_reading.proofs.MatchedLemmas.{AllLeft, AnyLeft}
use Rattle.dictionary_reading.proofs.matching.+matching_from.Given as goal

abbrev pub invariant-loop-test : goal.invariant-loop-test
invariant-loop-test l = AllLeft l.fn.test l.cuts l.count l.fn.at l.at (drop l.test-index l.test-items) l.ids

abbrev pub invariant-loop-test-2 : goal.invariant-loop-test-2
invariant-loop-test-2 l = AnyLeft l.fn.test l.cuts l.count l.fn.at l.at (drop l.test-index l.test-items) l.ids
