use Rattle.std.proofs.Common.{◌≡◌, ◌+◌, suc, take, get_or, length, subst, ap, ◌∙◌, arith, rules}
use Rattle.std.proofs.Common.{FitsSigned, w64, pos}
use Rattle.std.proofs.Math.Seq.{take-length}
use Rattle.agg_laws.specs.Numbers.{AreWhole}
use Rattle.state_columns.proofs.ValueSteps.{whole_more}
use Rattle.star_table.proofs.star_table.are_whole.Goals as goal

pub loop-i-preserved : goal.loop-i-preserved
loop-i-preserved c =
    let xs = c.args.values.now in
    let i = c.loop-i.i in
    let n : suc i ≡ i + 1 = omega arith in
    let fits : FitsSigned w64 (get_or xs i (pos 0)) = search rules in
    subst (λ m. AreWhole (take m xs)) n
    (whole_more i xs c.loop-i-test.true fits c.loop-i.invariant)

pub returns : goal.returns
returns c =
    let xs = c.args.values.now in
    let end : c.loop-i.i ≡ length xs = omega (arith, c.loop-i-test.false, c.loop-i.auto.i-end) in
    subst AreWhole (ap (λ m. take m xs) end ∙ take-length xs) c.loop-i.invariant
