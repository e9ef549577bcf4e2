use Rattle.std.proofs.Common.{◌≡◌, ◌<◌, length, get_or, set, ap, sym, subst, ◌∙◌, arith}
use Rattle.state_columns.specs.Columns.{widened, AreWider}
use Rattle.state_columns.proofs.EachSteps as steps
use Rattle.state_columns.proofs.column_list.reserve_columns.Goals as goal

pub returns-in_err-reserve-clause-kept : goal.returns-in_err-reserve-clause-kept
returns-in_err-reserve-clause-kept c =
    subst (AreWider c.args.columns.now)
    (sym (ap (set c.loop-i.columns c.loop-i.i) c.in_err-reserve.ensures.err
    ∙ steps.put_back_same c.loop-i.columns c.loop-i.i c.index-columns-i.result
    ∙ c.loop-i.invariant))
    (steps.first_wider c.args.more c.loop-i.i c.args.columns.now)

pub loop-i-preserved : goal.loop-i-preserved
loop-i-preserved c =
    let old = c.args.columns.now in
    let more = c.args.more in
    let i = c.loop-i.i in
    let d = c.index-columns-i.result in
    let lt : i < length old = c.loop-i-test.true in
    (λ j. set (c.loop-i.invariant j) i
    ((c.in_ok-reserve.ensures.ok ∙ ap (λ l. widened more (get_or l i d)) c.loop-i.invariant) j))
    ∙ steps.widened_more more i old d lt

pub returns-clause-kept : goal.returns-clause-kept
returns-clause-kept c = subst (AreWider c.args.columns.now) (sym c.loop-i.invariant)
    (steps.first_wider c.args.more c.loop-i.i c.args.columns.now)

pub returns-clause-ok : goal.returns-clause-ok
returns-clause-ok c =
    let old = c.args.columns.now in
    let end : c.loop-i.i ≡ length old = omega (arith, c.loop-i.auto.i-end, c.loop-i-test.false) in
    c.loop-i.invariant ∙ steps.widened_all c.args.more c.loop-i.i old end
