use Rattle.std.proofs.Common.{◌<◌, length, sym, subst}
use Rattle.broker_merge.proofs.RankLemmas.{Entry}
use Rattle.broker_merge.proofs.order.places_in.Goals as goal

pub bounds-kept-number : goal.bounds-kept-number
bounds-kept-number c = subst (λ (r : Entry). r.1 < length c.args.kept.now) (sym c.loop-number-item.is)
    (c.requires c.loop-number.number-index c.loop-number-item.result c.loop-number-test.true)
