use Rattle.value_ids.specs.Ids.{AreThose, negated_ids}
use Rattle.value_ids.proofs.MatchLemmas.{if_ok}
use Rattle.dictionary_reading.proofs.MatchedLemmas.{AreMembers, member_ids}
use Rattle.dictionary_reading.proofs.matching.one_of.Goals as goal

pub returns : goal.returns
returns c =
    if_ok c.negated_set.result (AreThose (negated_ids c.args.negated c.args.count c.in_ok-ids.ids)) (AreMembers c.args.negated c.args.cuts.now c.args.count)
    (λ new. member_ids c.args.negated c.args.cuts.now c.args.count c.in_ok-places_of.field-0.items c.in_ok-ids.ids new c.in_ok-places_of.ensures c.in_ok-ids.ensures) c.negated_set.ensures
