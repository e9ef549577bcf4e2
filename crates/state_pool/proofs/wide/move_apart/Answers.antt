use Rattle.std.proofs.Common.{◌≡◌, ◌+◌, ◌-◌, ◌*◌, ◌<◌, suc, sym, subst, arith, ◌∙◌}
use Rattle.state_pool.proofs.WideSteps.{AreMoved, moved_row, one_moved, from_fits}
use Rattle.state_pool.proofs.wide.move_apart.Goals as goal

pub rows-preserved : goal.rows-preserved
rows-preserved c =
    let count = c.args.count in let width = c.args.width in let wider = c.args.wider in let old = c.args.cells.now in let now = c.rows.cells in
    let number = count - 1 - c.rows.at in
    let lt : number < count = omega (arith, c.rows-test.true) in
    let left : count - c.rows.at ≡ suc number = omega (arith, c.rows-test.true) in
    let next : number ≡ count - (c.rows.at + 1) = omega (arith, c.rows-test.true) in
    let m = subst (λ left. AreMoved count width wider left old now) left c.rows.invariant in
    subst (λ left. AreMoved count width wider left old c.copy_within.new.self) next
    (subst (AreMoved count width wider number old) (sym (c.copy_within.ensures.after ∙ moved_row now (number * width) (number * wider) width (from_fits count width wider old now c.requires.wider c.requires.length number lt m)))
    (one_moved count width wider old now c.requires.wider c.requires.length number lt m))
