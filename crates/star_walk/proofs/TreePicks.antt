-- The picks of the tree of some rows, nested and flat.
use Rattle.std.proofs.Common.{◌≡◌, ℕ, List, [], length, map, ap, arith}
use Rattle.agg_laws.specs.declared.states.AggState.{AggState}
use Rattle.agg_laws.specs.declared.tree_shape.TreeShape.{TreeShape}
use Rattle.agg_laws.specs.Rows.{merged_rows}
use Rattle.state_columns.specs.Docs.{Doc, HaveIds}
use Rattle.agg_laws.specs.Tree.{HaveNoStar, Nodes, none, merged_docs, root_of, tree_of}
use Rattle.star_tree.specs.Flat.{Flat, flat, node_at}
use Rattle.star_tree.specs.FlatNodes.{IsOfTree}
use Rattle.star_tree.specs.Picks.{Task, picks}
use Rattle.state_columns.proofs.DocLemmas.{rows_join}
use Rattle.star_tree.proofs.FlatTrees.{nodes_of_tree, tree_flat}
use Rattle.star_walk.specs.Walking.{tree_picks}
use Rattle.star_walk.specs.Images.{bare, shown, AreWithin}
use Rattle.star_walk.proofs.ImageSteps.{tree_same}
use Rattle.star_walk.proofs.WithinSteps.{InDocs, tree_in}

no_root : (shape : TreeShape) (k : ℕ) (docs : List Doc)
    → root_of merged_rows shape k docs ≡ none
    → (flat merged_rows (root_of merged_rows shape k docs)).0 ≡ []
no_root shape k docs e = ap (λ tree. (flat merged_rows tree).0) e

of_tree : (shape : TreeShape) (k : ℕ) (rows : List Doc) (at : ℕ) (f : Flat (List AggState))
    → IsOfTree merged_rows shape k rows at f → InDocs (length f.1) f.0 (node_at f.0 at)
of_tree shape k rows at f h =
    let e = h.is.children_are in
    let i = h.is.children_in in
    record {
      order = h.is.docs_are.order;
      inside = h.is.docs_are.inside;
      total_in = h.is.total_in;
      children_in = omega (arith, e, i);
    }

module _ (t : Task) (shape : TreeShape) (k : ℕ) (docs : List Doc) (ids : HaveIds k docs)
    (no_star : HaveNoStar k docs) where
  abbrev pub tree : Nodes (List AggState)
  tree = tree_of merged_rows shape k docs

  abbrev pub f : Flat (List AggState)
  f = flat merged_rows (tree_of merged_rows shape k docs)

  -- they are the same, pick by pick
  pub same : map (shown f.1) (tree_picks t k f.0) ≡ map bare (picks merged_rows t k tree)
  same = tree_same t k tree f (no_root shape k (merged_docs merged_rows docs))
      (tree_flat merged_rows rows_join shape k docs ids no_star)

  -- and ranges of the documents
  pub within : AreWithin (length f.1) k (tree_picks t k f.0)
  within = tree_in t k (length f.1) f.0 (λ at lt. of_tree shape k docs at f
      (nodes_of_tree merged_rows rows_join shape k docs ids no_star at lt))
