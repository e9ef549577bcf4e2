use Rattle.std.proofs.Common.{◌≡◌, [], ◌∷◌}
use Rattle.agg_laws.specs.Rows.{row_of}
use Rattle.state_columns.specs.Columns.{pushed, kinds_in}
use Rattle.state_columns.proofs.EachSteps.{stepped}
use Rattle.state_columns.proofs.column_list.push_values.Given as goal

abbrev pub invariant-loop-i : goal.invariant-loop-i
invariant-loop-i l = l.columns ≡ stepped pushed l.i l.initial.columns (row_of (kinds_in
    l.initial.columns) (l.values ∷ []))
