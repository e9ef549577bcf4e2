use Rattle.agg_laws.specs.laws.Rows as rows
use Rattle.agg_laws.proofs.laws.weights_law.Goals as goal

pub returns : goal.returns
returns c = record {
  least = rows.weight_least;
  reached = rows.fits_weight;
  both = rows.weight_both;
  row_least = rows.row_weight_least;
  row_reached = rows.row_fits_weight;
  row_both = rows.row_weight_both;
  stored = rows.row_stored_both;
}
