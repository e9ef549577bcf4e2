use Rattle.std.proofs.Common.{◌≡◌, ◌∷◌, []}
use Rattle.agg_laws.specs.Rows.{row_of, kinds_of}
use Rattle.state_columns.proofs.RowPlaces.{mixed}
use Rattle.state_columns.proofs.state_row.add_values.Given as goal

abbrev pub invariant-loop-i : goal.invariant-loop-i
invariant-loop-i l = l.states
    ≡ mixed l.i l.initial.states (row_of (kinds_of l.initial.states) (l.values ∷ []))
