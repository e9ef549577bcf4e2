use Rattle.std.proofs.Common.{◌≡◌, ℕ, ◌+◌, ◌*◌, List, [], ◌∷◌, length, refl}
use Rattle.agg_laws.specs.declared.tree_shape.TreeShape.{TreeShape}
use Rattle.agg_laws.specs.declared.states.AggState.{AggState}
use Rattle.agg_laws.specs.Rows.{merged_rows}
use Rattle.agg_laws.specs.Tree.{merged_docs, Nodes, tree_of, root_of, under}
use Rattle.state_columns.specs.Docs.{Doc}
use Rattle.state_columns.specs.Documents.{documents_of}
use Rattle.star_tree.specs.Flat.{flat, nodes_in, tree_bytes}
use Rattle.star_tree.proofs.FlatLemmas.{flat_docs, flat_count}
use Rattle.star_tree.proofs.FlatTrees.{nodes_of_tree, tree_flat}
use Rattle.state_columns.proofs.DocLemmas.{rows_join}
use Rattle.star_tree.proofs.laws.flat_law.Goals as goal

count_of : (shape : TreeShape) (k : ℕ) (docs : List Doc)
    → length (flat merged_rows (root_of merged_rows shape k docs)).0
    ≡ nodes_in (root_of merged_rows shape k docs)
count_of shape k [] = refl
count_of shape k (e ∷ es) =
    flat_count merged_rows 4294967295 (e ∷ es) (under merged_rows shape k 0 (e ∷ es))

bytes_of : (width : ℕ) (tree : Nodes (List AggState)) → length (flat merged_rows tree).0
    ≡ nodes_in tree → tree_bytes merged_rows width tree
    ≡ width * length (documents_of merged_rows tree) + 28 * nodes_in tree
bytes_of width tree n = λ i. width * length (flat_docs merged_rows tree i) + 28 * n i

pub returns : goal.returns
returns c = record {
  documents = flat_docs merged_rows;
  count = λ shape k docs. count_of shape k (merged_docs merged_rows docs);
  bytes = λ width shape k docs. bytes_of width (tree_of merged_rows shape k docs)
      (count_of shape k (merged_docs merged_rows docs));
  nested = λ shape k docs ids no_star. tree_flat merged_rows rows_join shape k docs ids no_star;
  each = λ shape k docs ids no_star. nodes_of_tree merged_rows rows_join shape k docs ids no_star;
}
