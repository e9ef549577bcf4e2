use Rattle.value_ids.specs.Ids.{AreThose, negated_ids}
use Rattle.value_ids.proofs.MatchLemmas.{if_ok}
use Rattle.dictionary_reading.proofs.MatchedLemmas.{AreBetween, between_ids}
use Rattle.dictionary_reading.proofs.matching.between.Goals as goal

pub returns : goal.returns
returns c =
    if_ok c.negated_set.result (AreThose (negated_ids c.args.negated c.args.count c.in_ok-ids.ids)) (AreBetween c.args.negated c.args.low c.args.high c.args.count)
    (λ new. between_ids c.args.negated c.args.low c.args.high c.args.count c.in_ok-ids.ids new c.in_ok-ids.ensures) c.negated_set.ensures
