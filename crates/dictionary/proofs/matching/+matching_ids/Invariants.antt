use Rattle.std.proofs.Common.{drop}
use Rattle.value_ids.proofs.MatchLemmas.{AllSoFar, AnySoFar}
use Rattle.dictionary.proofs.matching.+matching_ids.Given as goal

abbrev pub invariant-loop-test : goal.invariant-loop-test
invariant-loop-test l = AllSoFar l.fn.test l.ascending.values.now (drop l.test-index l.test-items) l.ids

abbrev pub invariant-loop-test-2 : goal.invariant-loop-test-2
invariant-loop-test-2 l = AnySoFar l.fn.test l.ascending.values.now (drop l.test-index l.test-items) l.ids
