use Rattle.std.proofs.Common.{◌≡◌}
use Rattle.state_columns.proofs.RowPlaces.{mixed}
use Rattle.state_pool.specs.Kept.{part_of, with_part}
use Rattle.state_pool.proofs.cells.merge_part.Given as goal

abbrev pub invariant-loop-i : goal.invariant-loop-i
invariant-loop-i l = l.cells ≡ with_part l.initial.cells l.into l.count
    (mixed l.i (part_of l.initial.cells l.into l.count) (part_of l.initial.cells l.from l.count))
