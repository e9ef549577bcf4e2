use Rattle.std.proofs.Common.{◌≡◌, [], ◌∷◌}
use Rattle.agg_laws.specs.Rows.{row_of, merged_rows}
use Rattle.state_columns.specs.Columns.{replaced, kinds_in, row_at}
use Rattle.state_columns.proofs.EachSteps.{stepped}
use Rattle.state_columns.proofs.column_list.add_values_at.Given as goal

abbrev pub invariant-loop-i : goal.invariant-loop-i
invariant-loop-i l = l.columns ≡ stepped (replaced l.place) l.i l.initial.columns (merged_rows
    (row_at l.initial.columns l.place) (row_of (kinds_in l.initial.columns) (l.values ∷ [])))
