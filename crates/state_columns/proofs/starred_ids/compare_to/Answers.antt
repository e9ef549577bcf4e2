use Rattle.std.proofs.Common.{length, sym, ◌∙◌, arith, length-set}
use Rattle.std.specs.Ordering.{nat_cmp}
use Rattle.agg_laws.specs.Tree.{star, set_star}
use Rattle.state_columns.proofs.CompareSteps.{longer, ended}
use Rattle.state_columns.proofs.starred_ids.compare_to.Goals as goal

pub returns-then-at-y : goal.returns-then-at-y
returns-then-at-y c =
    let x = c.args.x.now in
    let y = c.args.y.now in
    sym (c.loop-at.invariant.left
    ∙ longer c.loop-at.at x (set_star c.args.level y) (omega (arith, c.loop-at-test.true))
    (omega (arith, c.if-at-y.true, length-set y c.args.level star)))

pub returns : goal.returns
returns c =
    let x = c.args.x.now in
    let y = c.args.y.now in
    c.cmp.ensures
    ∙ (λ i. nat_cmp (length x) (sym (length-set y c.args.level star) i))
    ∙ sym (c.loop-at.invariant.left
    ∙ ended c.loop-at.at x (set_star c.args.level y)
    (omega (arith, c.loop-at-test.false, c.loop-at.auto.at-end))
    (omega (arith, c.loop-at.invariant.within, length-set y c.args.level star)))
