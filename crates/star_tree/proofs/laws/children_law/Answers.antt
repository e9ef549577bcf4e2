use Rattle.agg_laws.specs.Rows.{merged_rows}
use Rattle.star_tree.proofs.ShareLemmas.{tree_shares}
use Rattle.state_columns.proofs.DocLemmas.{rows_join}
use Rattle.star_tree.proofs.laws.children_law.Goals as goal

pub returns : goal.returns
returns c shape k docs no_star = tree_shares merged_rows rows_join shape k docs no_star
