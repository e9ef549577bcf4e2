use Rattle.state_pool.proofs.CellLemmas.{units_more}
use Rattle.state_pool.proofs.units.write_units.Goals as goal

pub loop-i-preserved : goal.loop-i-preserved
loop-i-preserved c = (
  units_more c.args.cells.now.items c.loop-i.cells.items c.args.kinds.now c.args.from c.loop-i.i c.unit.result
      c.requires c.loop-i-test.true c.unit.ensures c.loop-i.invariant.0,
  c.loop-i.invariant.1,
)
