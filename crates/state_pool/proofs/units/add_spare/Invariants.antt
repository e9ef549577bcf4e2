use Rattle.std.proofs.Common.{◌≡◌, ◌≤◌, ◌++◌, replicate}
use Rattle.std.specs.Vec.{vec_capacity}
use Rattle.agg_laws.specs.declared.states.AggState.TheVariants.{Count}
use Rattle.state_pool.proofs.units.add_spare.Given as goal

abbrev pub invariant-loop-i : goal.invariant-loop-i
invariant-loop-i l = (l.cells.items ≡ l.initial.cells.items ++ replicate l._i (Count 0))
    × (vec_capacity l.initial.cells ≤ vec_capacity l.cells)
