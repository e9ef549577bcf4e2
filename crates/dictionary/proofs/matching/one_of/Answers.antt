use Rattle.std.proofs.Common.{ℕ, IfOk, length, subst}
use Rattle.values.specs.Tests.{is_member, negated_if}
use Rattle.value_ids.specs.Ids.{AreThose, Picks, negated_ids}
use Rattle.value_ids.proofs.MatchLemmas.{if_ok, negated_picks, set_picks}
use Rattle.dictionary.proofs.matching.one_of.Goals as goal

pub returns : goal.returns
returns c =
    if_ok c.negated_set.result (AreThose (negated_ids c.args.negated (length c.args.ascending.values.now) c.in_ok-ids.ids)) (Picks (λ value. negated_if c.args.negated (is_member c.args.members.now value)) c.args.ascending.values.now)
    (λ new. negated_picks c.args.negated (is_member c.args.members.now) c.args.ascending.values.now c.in_ok-ids.ids new
    (set_picks (is_member c.args.members.now) c.args.ascending.values.now c.in_ok-places_of.field-0.items c.in_ok-ids.ids c.in_ok-places_of.ensures c.in_ok-ids.ensures)) (subst (λ (n : ℕ). IfOk c.negated_set.result (AreThose (negated_ids c.args.negated n c.in_ok-ids.ids))) c.len.ensures c.negated_set.ensures)
