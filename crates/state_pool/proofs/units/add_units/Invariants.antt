use Rattle.std.proofs.Common.{◌≡◌, ◌≤◌, ◌++◌, take}
use Rattle.std.specs.Vec.{vec_capacity}
use Rattle.agg_laws.specs.Rows.{units_of}
use Rattle.state_pool.proofs.units.add_units.Given as goal

abbrev pub invariant-loop-i : goal.invariant-loop-i
invariant-loop-i l = (l.cells.items ≡ l.initial.cells.items ++ units_of (take l.i l.kinds))
    × (vec_capacity l.initial.cells ≤ vec_capacity l.cells)
