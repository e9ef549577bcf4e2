use Rattle.std.proofs.Common.{ℕ, IfOk, length, subst}
use Rattle.values.specs.Tests.{is_between, negated_if}
use Rattle.value_ids.specs.Ids.{AreThose, Picks, negated_ids}
use Rattle.value_ids.proofs.MatchLemmas.{between_run, if_ok, negated_picks}
use Rattle.dictionary.proofs.matching.between.Goals as goal

pub returns : goal.returns
returns c =
    if_ok c.negated_set.result (AreThose (negated_ids c.args.negated (length c.args.ascending.values.now) c.in_ok-ids.ids)) (Picks (λ value. negated_if c.args.negated (is_between c.args.low.now value c.args.high.now)) c.args.ascending.values.now)
    (λ new. negated_picks c.args.negated (λ value. is_between c.args.low.now value c.args.high.now) c.args.ascending.values.now c.in_ok-ids.ids new
    (between_run c.args.ascending.values.now c.args.low.now c.args.high.now c.cut_at.result.from c.cut_at.result.to c.cut_at-2.result.from c.cut_at-2.result.to c.in_ok-ids.ids c.cut_at.ensures c.cut_at-2.ensures c.in_ok-ids.ensures))
    (subst (λ (n : ℕ). IfOk c.negated_set.result (AreThose (negated_ids c.args.negated n c.in_ok-ids.ids))) c.len.ensures c.negated_set.ensures)
