use Rattle.std.proofs.Common.{◌≡◌, ◌+◌, ◌++◌, take, drop}
use Rattle.std.specs.Vec.{vec_capacity}
use Rattle.agg_laws.specs.Rows.{units_of}
use Rattle.state_pool.proofs.units.write_units.Given as goal

abbrev pub invariant-loop-i : goal.invariant-loop-i
invariant-loop-i l = (l.cells.items ≡ take l.from l.initial.cells.items ++ (units_of (take l.i l.kinds)
    ++ drop (l.from + l.i) l.initial.cells.items)) × (vec_capacity l.cells ≡ vec_capacity l.initial.cells)
