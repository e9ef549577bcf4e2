use Rattle.std.proofs.Common.{sym, ◌∙◌, arith, length-set}
use Rattle.std.specs.Ordering.{nat_cmp}
use Rattle.agg_laws.specs.Tree.{star, set_star}
use Rattle.state_columns.proofs.CompareSteps.{longer, ended}
use Rattle.state_columns.proofs.starred_ids.compare_starred.Goals as goal

pub returns-then-at-y : goal.returns-then-at-y
returns-then-at-y c =
    let x = c.args.x.now in
    let y = c.args.y.now in
    sym (c.loop-at.invariant.left
    ∙ longer c.loop-at.at (set_star c.args.level x) (set_star c.args.level y)
    (omega (arith, c.loop-at-test.true, length-set x c.args.level star))
    (omega (arith, c.if-at-y.true, length-set y c.args.level star)))

pub returns : goal.returns
returns c =
    let x = c.args.x.now in
    let y = c.args.y.now in
    c.cmp.ensures
    ∙ (λ i. nat_cmp (sym (length-set x c.args.level star) i)
    (sym (length-set y c.args.level star) i))
    ∙ sym (c.loop-at.invariant.left
    ∙ ended c.loop-at.at (set_star c.args.level x) (set_star c.args.level y)
    (omega (arith, c.loop-at-test.false, c.loop-at.auto.at-end, length-set x c.args.level star))
    (omega (arith, c.loop-at.invariant.within, length-set y c.args.level star)))
