use Rattle.agg_laws.specs.Rows.{merged_rows}
use Rattle.agg_laws.specs.Tree.{tree_of}
use Rattle.star_tree.proofs.GroupLemmas.{rows_parted, groups_kept}
use Rattle.star_tree.proofs.PickDocs.{tree_docs}
use Rattle.state_columns.proofs.DocLemmas.{rows_join}
use Rattle.star_tree.proofs.laws.picks_law.Goals as goal

pub returns : goal.returns
returns c = record {
  parted = λ t shape k docs. rows_parted merged_rows rows_join t k shape docs;
  documents = λ t shape k docs. tree_docs merged_rows rows_join t k shape docs;
  grouped = λ t shape k docs. groups_kept t k merged_rows (tree_of merged_rows shape k docs);
}
