use Rattle.std.proofs.Common.{◌≡◌, ◌≤◌, length}
use Rattle.agg_laws.specs.Rows.{row_weight}
use Rattle.agg_laws.specs.Merged.{weights}
use Rattle.state_columns.specs.Docs.{projected}
use Rattle.star_rows.specs.Columns.{rows_of}
use Rattle.star_rows.proofs.projection.project.Given as goal

abbrev pub invariant-loop-row : goal.invariant-loop-row
invariant-loop-row l = record {
  dims : l.table.dims ≡ l.shape.dims;
  kinds : l.table.kinds ≡ l.shape.kinds;
  docs : l.table.docs ≡ projected l.shape.kinds (rows_of l.row l.dims l.metrics);
  count : length l.table.docs ≡ l.row;
  weight_fits : weights row_weight l.table.docs ≤ l.row;
}
