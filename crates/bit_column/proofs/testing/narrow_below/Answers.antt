use Rattle.std.proofs.Common.{◌+◌, subst, sym}
use Rattle.bit_column.proofs.Most.{IsMost, most-none, most-more}
use Rattle.bit_column.proofs.testing.narrow_below.Goals as goal

pub loop-at-init : goal.loop-at-init
loop-at-init c = most-none c.args.count c.args.ids.now

pub loop-at-preserved : goal.loop-at-preserved
loop-at-preserved c =
    subst (λ most. IsMost c.args.count most (c.loop-at.at + 1) c.args.ids.now) (sym c.max-most.ensures)
    (most-more c.args.count c.loop-at.most c.loop-at.at c.args.ids.now c.loop-at-test.true c.loop-at.invariant)
