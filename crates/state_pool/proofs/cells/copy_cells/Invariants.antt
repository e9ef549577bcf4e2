use Rattle.std.proofs.Common.{◌≡◌, ◌++◌, length, take, drop}
use Rattle.state_pool.specs.Kept.{part_of, with_part}
use Rattle.state_pool.proofs.cells.copy_cells.Given as goal

abbrev pub invariant-loop-i : goal.invariant-loop-i
invariant-loop-i l = l.cells ≡ with_part l.initial.cells l.from (length l.states)
    (take l.i l.states ++ drop l.i (part_of l.initial.cells l.from (length l.states)))
