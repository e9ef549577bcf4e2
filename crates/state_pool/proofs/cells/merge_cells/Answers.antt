use Rattle.std.proofs.Common.{◌≡◌, length, get_or, ap, sym, subst, ◌∙◌, arith}
use Rattle.agg_laws.specs.declared.states.AggState.TheVariants.{Count}
use Rattle.agg_laws.specs.Numbers.{most_values}
use Rattle.agg_laws.specs.States.{kind_of, merged, Fits}
use Rattle.state_columns.proofs.RowPlaces.{kind_at, fits_at, same_length}
use Rattle.state_pool.specs.Kept.{part_of}
use Rattle.state_pool.proofs.PartSteps as steps
use Rattle.state_pool.proofs.cells.merge_cells.Goals as goal

pub merge-requires-clause-kinds : goal.merge-requires-clause-kinds
merge-requires-clause-kinds c =
    let xs = c.args.cells.now in let ws = c.args.states.now in let from = c.args.from in let i = c.loop-i.i in
    ap kind_of (steps.next_here xs from (length ws) c.requires.within ws c.loop-i.cells i (Count 0) c.loop-i-test.true c.loop-i.invariant)
    ∙ kind_at (part_of xs from (length ws)) ws i (Count 0) (Count 0) c.requires.kinds
    (omega (arith, steps.length-part xs from (length ws) c.requires.within, c.loop-i-test.true))

pub merge-requires-clause-fits : goal.merge-requires-clause-fits
merge-requires-clause-fits c =
    let xs = c.args.cells.now in let ws = c.args.states.now in let from = c.args.from in let i = c.loop-i.i in
    subst (λ v. Fits (merged v (get_or ws i (Count 0))) most_values)
    (sym (steps.next_here xs from (length ws) c.requires.within ws c.loop-i.cells i (Count 0) c.loop-i-test.true c.loop-i.invariant))
    (fits_at (part_of xs from (length ws)) ws most_values i (Count 0) (Count 0) c.requires.fits
    (same_length (part_of xs from (length ws)) ws c.requires.kinds) (omega (arith, steps.length-part xs from (length ws) c.requires.within, c.loop-i-test.true)))

pub loop-i-preserved : goal.loop-i-preserved
loop-i-preserved c =
    let xs = c.args.cells.now in let ws = c.args.states.now in let from = c.args.from in let i = c.loop-i.i in
    steps.next_merged xs from (length ws) c.requires.within ws c.loop-i.cells i (Count 0) c.loop-i-test.true c.loop-i.invariant (Count 0) c.merge.new.self
    (let n = length ws in let e : n ≡ n = omega arith in e)
    (c.merge.ensures ∙ ap (λ v. merged v (get_or ws i (Count 0)))
    (steps.next_here xs from (length ws) c.requires.within ws c.loop-i.cells i (Count 0) c.loop-i-test.true c.loop-i.invariant))

pub loop-i-init : goal.loop-i-init
loop-i-init c = steps.part_whole c.args.cells.now c.args.from (length c.args.states.now) c.requires.within

pub returns : goal.returns
returns c =
    let xs = c.args.cells.now in let ws = c.args.states.now in
    steps.all_merged xs c.args.from (length ws) c.requires.within ws c.loop-i.cells c.loop-i.i
    (omega (arith, c.loop-i.auto.i-end, c.loop-i-test.false)) (let n = length ws in let e : n ≡ n = omega arith in e) c.loop-i.invariant
