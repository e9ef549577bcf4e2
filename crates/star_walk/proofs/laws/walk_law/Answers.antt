use Rattle.std.proofs.Common.{◌≡◌, ℕ, ◌<◌, ◌≤◌, List, ap, sym, ◌∙◌, subst}
use Rattle.agg_laws.specs.declared.tree_shape.TreeShape.{TreeShape}
use Rattle.agg_laws.specs.Rows.{merged_rows}
use Rattle.state_columns.specs.Docs.{Doc, HaveIds}
use Rattle.agg_laws.specs.Tree.{HaveNoStar, tree_of}
use Rattle.star_tree.specs.Flat.{flat}
use Rattle.star_tree.specs.Reads.{factor, bound}
use Rattle.star_tree.specs.Picks.{Task, picks}
use Rattle.star_tree.specs.Picks as nested
use Rattle.star_tree.specs.Groups.{groups_of, rows_that_hold}
use Rattle.state_columns.proofs.DocLemmas.{rows_join}
use Rattle.star_tree.proofs.ReadLemmas.{tree_read}
use Rattle.star_tree.proofs.AnswerLemmas.{same_groups}
use Rattle.star_walk.specs.Walking.{tree_picks}
use Rattle.star_walk.specs.declared.pick.Pick.{Pick}
use Rattle.star_walk.specs.Images.{read_of, passing}
use Rattle.star_walk.proofs.ImageSteps.{tree_same}
use Rattle.star_walk.proofs.WithinSteps.{read_same, passing_same}
use Rattle.star_walk.proofs.TreePicks.{same, within}
use Rattle.star_walk.proofs.laws.walk_law.Goals as goal

module _ (t : Task) (shape : TreeShape) (k : ℕ) (docs : List Doc) (ids : HaveIds k docs)
    (no_star : HaveNoStar k docs) where
  abbrev its : List Pick
  its = tree_picks t k (flat merged_rows (tree_of merged_rows shape k docs)).0

  count : read_of its ≡ nested.read_of (picks merged_rows t k (tree_of merged_rows shape k docs))
  count = read_same (flat merged_rows (tree_of merged_rows shape k docs)).1 k its
      (picks merged_rows t k (tree_of merged_rows shape k docs))
      (within t shape k docs ids no_star) (same t shape k docs ids no_star)

  at_most : 1 ≤ shape.leaf → ((d : ℕ) → d < k → 1 ≤ factor merged_rows t shape docs d)
      → read_of its ≤ bound merged_rows t shape docs k
  at_most leaf some =
      subst (λ n. n ≤ bound merged_rows t shape docs k)
      (sym count)
      (tree_read merged_rows rows_join t k shape docs ids no_star leaf some)

  answers : groups_of merged_rows t k
      (passing t k (flat merged_rows (tree_of merged_rows shape k docs)).1 its)
      ≡ groups_of merged_rows t k (rows_that_hold t k docs)
  answers =
      ap (groups_of merged_rows t k)
      (passing_same t k (flat merged_rows (tree_of merged_rows shape k docs)).1 its
      (picks merged_rows t k (tree_of merged_rows shape k docs)) (same t shape k docs ids no_star))
      ∙ same_groups merged_rows rows_join t k shape docs ids no_star

pub returns : goal.returns
returns c = record {
  nested = tree_same;
  count = count;
  reads = at_most;
  groups = answers;
}
