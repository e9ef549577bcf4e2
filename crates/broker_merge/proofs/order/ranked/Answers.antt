use Rattle.std.proofs.Common.{refl, sym, subst, List, ◌+◌}
use Rattle.broker_merge.specs.Ranked.{AreRanked}
use Rattle.broker_merge.proofs.RankLemmas.{Entry, pushed}
use Rattle.broker_merge.proofs.order.ranked.Goals as goal

pub loop-at-preserved : goal.loop-at-preserved
loop-at-preserved c = subst (λ (l : List Entry). AreRanked c.args.places.now c.args.width (c.loop-at.at + 1) l) (sym c.in_ok-push.ensures.items)
    (pushed c.args.places.now c.args.width c.loop-at.at c.loop-at.ranked.items (c.shown_at.result, c.loop-at.at) c.loop-at.invariant c.shown_at.ensures refl)
