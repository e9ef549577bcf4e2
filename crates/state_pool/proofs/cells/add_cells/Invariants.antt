use Rattle.std.proofs.Common.{◌≡◌, ◌∷◌, [], length}
use Rattle.agg_laws.specs.Rows.{row_of, kinds_of}
use Rattle.state_columns.proofs.RowPlaces.{mixed}
use Rattle.state_pool.specs.Kept.{part_of, with_part}
use Rattle.state_pool.proofs.cells.add_cells.Given as goal

abbrev pub invariant-loop-i : goal.invariant-loop-i
invariant-loop-i l = l.cells ≡ with_part l.initial.cells l.from (length l.values)
    (mixed l.i (part_of l.initial.cells l.from (length l.values))
    (row_of (kinds_of (part_of l.initial.cells l.from (length l.values))) (l.values ∷ [])))
