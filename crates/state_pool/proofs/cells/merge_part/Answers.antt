use Rattle.std.proofs.Common.{ap, sym, subst, ◌∙◌, arith}
use Rattle.agg_laws.specs.declared.states.AggState.TheVariants.{Count}
use Rattle.agg_laws.specs.Numbers.{most_values}
use Rattle.agg_laws.specs.States.{kind_of, merged, Fits}
use Rattle.state_columns.proofs.RowPlaces.{kind_at, fits_at, same_length}
use Rattle.state_pool.specs.Kept.{part_of}
use Rattle.state_pool.proofs.PartSteps as steps
use Rattle.state_pool.proofs.cells.merge_part.Goals as goal

pub merge-requires-clause-kinds : goal.merge-requires-clause-kinds
merge-requires-clause-kinds c =
    let xs = c.args.cells.now in let into = c.args.into in let n = c.args.count in let ws = part_of xs c.args.from n in let i = c.loop-i.i in
    ap kind_of (steps.next_here xs into n c.requires.into ws c.loop-i.cells i (Count 0) c.loop-i-test.true c.loop-i.invariant)
    ∙ kind_at (part_of xs into n) ws i (Count 0) (Count 0) c.requires.kinds (omega (arith, steps.length-part xs into n c.requires.into, c.loop-i-test.true))
    ∙ ap kind_of (sym (steps.next_there xs into n c.requires.into ws c.loop-i.cells i (Count 0) c.loop-i-test.true c.loop-i.invariant c.args.from c.requires.apart))

pub merge-requires-clause-fits : goal.merge-requires-clause-fits
merge-requires-clause-fits c =
    let xs = c.args.cells.now in let into = c.args.into in let n = c.args.count in let ws = part_of xs c.args.from n in let i = c.loop-i.i in
    let here = steps.next_here xs into n c.requires.into ws c.loop-i.cells i (Count 0) c.loop-i-test.true c.loop-i.invariant in
    let there = steps.next_there xs into n c.requires.into ws c.loop-i.cells i (Count 0) c.loop-i-test.true c.loop-i.invariant c.args.from c.requires.apart in
    subst (λ v. Fits v most_values) (sym (λ k. merged (here k) (there k)))
    (fits_at (part_of xs into n) ws most_values i (Count 0) (Count 0) c.requires.fits
    (same_length (part_of xs into n) ws c.requires.kinds) (omega (arith, steps.length-part xs into n c.requires.into, c.loop-i-test.true)))

pub loop-i-preserved : goal.loop-i-preserved
loop-i-preserved c =
    let xs = c.args.cells.now in let into = c.args.into in let n = c.args.count in let ws = part_of xs c.args.from n in let i = c.loop-i.i in
    let here = steps.next_here xs into n c.requires.into ws c.loop-i.cells i (Count 0) c.loop-i-test.true c.loop-i.invariant in
    let there = steps.next_there xs into n c.requires.into ws c.loop-i.cells i (Count 0) c.loop-i-test.true c.loop-i.invariant c.args.from c.requires.apart in
    steps.next_merged xs into n c.requires.into ws c.loop-i.cells i (Count 0) c.loop-i-test.true c.loop-i.invariant (Count 0) c.merge.new.self
    (sym (steps.length-part xs c.args.from n c.requires.from)) (c.merge.ensures ∙ (λ k. merged (here k) (there k)))

pub loop-i-init : goal.loop-i-init
loop-i-init c = steps.part_whole c.args.cells.now c.args.into c.args.count c.requires.into

pub returns : goal.returns
returns c =
    let xs = c.args.cells.now in let n = c.args.count in let ws = part_of xs c.args.from n in
    steps.all_merged xs c.args.into n c.requires.into ws c.loop-i.cells c.loop-i.i
    (omega (arith, c.loop-i.auto.i-end, c.loop-i-test.false)) (sym (steps.length-part xs c.args.from n c.requires.from)) c.loop-i.invariant
