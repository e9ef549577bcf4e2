use Rattle.std.proofs.Common.{◌-◌}
use Rattle.state_pool.proofs.WideSteps.{AreMoved}
use Rattle.state_pool.proofs.wide.move_apart.Given as goal

abbrev pub invariant-rows : goal.invariant-rows
invariant-rows l = AreMoved l.count l.width l.wider (l.count - l.at) l.initial.cells l.cells
