use Rattle.agg_laws.specs.Rows.{merged_rows}
use Rattle.star_tree.proofs.TreeLemmas.{tree_covers}
use Rattle.state_columns.proofs.DocLemmas.{rows_join}
use Rattle.star_tree.proofs.laws.covers_law.Goals as goal

pub returns : goal.returns
returns c = tree_covers merged_rows rows_join
