use Rattle.std.proofs.Common.{length, refl, arith}
use Rattle.agg_laws.specs.declared.states.AggState.TheVariants.{Count}
use Rattle.state_pool.proofs.PartSteps as steps
use Rattle.state_pool.proofs.cells.copy_cells.Goals as goal

pub loop-i-init : goal.loop-i-init
loop-i-init c = steps.part_whole c.args.cells.now c.args.from (length c.args.states.now) c.requires

pub loop-i-preserved : goal.loop-i-preserved
loop-i-preserved c =
    steps.next_copied c.args.cells.now c.args.from (length c.args.states.now) c.requires c.args.states.now c.loop-i.cells c.loop-i.i (Count 0) refl c.loop-i-test.true c.loop-i.invariant _ refl

pub returns : goal.returns
returns c =
    steps.all_copied c.args.cells.now c.args.from (length c.args.states.now) c.requires c.args.states.now c.loop-i.cells c.loop-i.i
    (omega (arith, c.loop-i.auto.i-end, c.loop-i-test.false)) refl c.loop-i.invariant
