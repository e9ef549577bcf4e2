use Rattle.std.proofs.Common.{arith}
use Rattle.index_filter.proofs.MatchLemmas.{matching_below}
use Rattle.index_filter.proofs.candidates.indexed.Goals as goal

pub docs_of_ids-requires-clause-below : goal.docs_of_ids-requires-clause-below
docs_of_ids-requires-clause-below g c = λ k d lt.
    let own = matching_below c.dictionary-dictionary.result.now.values c.args.test.now c.in-Ok.ids c.in-Ok.ensures.each k d lt in
    omega (arith, own, c.count.ensures.count)
