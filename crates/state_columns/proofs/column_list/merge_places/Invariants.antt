use Rattle.std.proofs.Common.{◌≡◌}
use Rattle.agg_laws.specs.Rows.{merged_rows}
use Rattle.state_columns.specs.Columns.{replaced, row_at}
use Rattle.state_columns.proofs.EachSteps.{stepped}
use Rattle.state_columns.proofs.column_list.merge_places.Given as goal

abbrev pub invariant-loop-i : goal.invariant-loop-i
invariant-loop-i l = l.columns ≡ stepped (replaced l.into) l.i l.initial.columns (merged_rows
    (row_at l.initial.columns l.into) (row_at l.initial.columns l.from))
