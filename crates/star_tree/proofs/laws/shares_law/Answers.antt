use Rattle.agg_laws.specs.Rows.{merged_rows, row_weight}
use Rattle.agg_laws.specs.laws.Rows as rows
use Rattle.agg_laws.specs.Tree.{dims_order}
use Rattle.state_columns.proofs.WeightLemmas.{weights-Merged}
use Rattle.state_columns.proofs.DocLemmas.{weights_least, weights_reached, stored-merged}
use Rattle.star_tree.proofs.laws.shares_law.Goals as goal

pub returns : goal.returns
returns c = record {
  merged = weights-Merged row_weight dims_order merged_rows rows.row_weight_both;
  least = weights_least;
  reached = weights_reached;
  stored = stored-merged;
}
