use Rattle.value_ids.proofs.MatchLemmas.{ids_so}
use Rattle.dictionary_reading.proofs.matching.matching_ids.Goals as goal

pub returns : goal.returns
returns c = λ values cut. ids_so c.args.test.now values c.in_ok-ids.ids c.as_slice-list.ensures.valid (c.in_ok-ids.ensures.ids values cut.many cut.each)
