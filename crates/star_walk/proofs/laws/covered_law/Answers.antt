use Rattle.std.proofs.Common.{◌≡◌, ℕ, ◌≤◌, List, map, sym, subst, All, count_by}
use Rattle.agg_laws.specs.declared.tree_shape.TreeShape.{TreeShape}
use Rattle.agg_laws.specs.Rows.{merged_rows}
use Rattle.state_columns.specs.Docs.{Doc, HaveIds}
use Rattle.agg_laws.specs.Tree.{HaveNoStar, agrees, tree_of}
use Rattle.star_tree.specs.Flat.{flat}
use Rattle.star_tree.specs.Picks.{Task, picks}
use Rattle.state_columns.proofs.DocLemmas.{rows_join}
use Rattle.star_tree.proofs.TreeLemmas.{tree_covers}
use Rattle.star_tree.proofs.GroupLemmas.{rows_parted, groups_kept}
use Rattle.star_walk.specs.declared.pick.Pick.{Pick}
use Rattle.star_walk.specs.Walking.{tree_picks}
use Rattle.star_walk.specs.Images.{bare, shown}
use Rattle.star_walk.specs.Covering.{covers, AreCovered, HaveValues, has_number}
use Rattle.star_walk.proofs.CoverSteps.{NestedPick, ArePicks, HaveRows, tree_are, paths_covered}
use Rattle.star_walk.proofs.CoverSteps.{rows_covered, have_values, have_rows, picked_once}
use Rattle.star_walk.proofs.TreePicks.{same, within}
use Rattle.star_walk.proofs.laws.covered_law.Goals as goal

module _ (t : Task) (shape : TreeShape) (k : ℕ) (rows : List Doc) where
  abbrev its : List NestedPick
  its = picks merged_rows t k (tree_of merged_rows shape k rows)

  abbrev docs : List Doc
  docs = (flat merged_rows (tree_of merged_rows shape k rows)).1

  abbrev flat_picks : List Pick
  flat_picks = tree_picks t k (flat merged_rows (tree_of merged_rows shape k rows)).0

  module _ (ids : HaveIds k rows) (no_star : HaveNoStar k rows) where
    are : ArePicks t k rows no_star its
    are = tree_are t k rows no_star (tree_of merged_rows shape k rows)
        (tree_covers merged_rows rows_join shape k rows no_star)

    turned : map bare its ≡ map (shown docs) flat_picks
    turned = sym (same t shape k rows ids no_star)

    nested_covered : AreCovered t k (map bare its) rows
    nested_covered = rows_covered t k rows no_star ids its are
        (rows_parted merged_rows rows_join t k shape rows no_star)

    paths : All (λ p. All (λ row. covers row.0 (bare p) ≡ agrees p.path row.0) rows) its
    paths = paths_covered t k rows no_star ids its are

    flat_covered : AreCovered t k (map (shown docs) flat_picks) rows
    flat_covered = subst (λ ps. AreCovered t k ps rows) turned nested_covered

    values : All (λ p. HaveValues t k rows p.1) (map (shown docs) flat_picks)
    values = subst (λ ps. All (λ p. HaveValues t k rows p.1) ps) turned
        (have_values t k rows no_star its are
        (groups_kept t k merged_rows (tree_of merged_rows shape k rows)))

    once : (at : ℕ) → count_by (has_number at) flat_picks ≤ 1
    once at = picked_once t k rows no_star docs at flat_picks (within t shape k rows ids no_star)
        (subst (HaveRows t k rows no_star) turned (have_rows t k rows no_star its are)) flat_covered

pub returns : goal.returns
returns c = record {
  nested = nested_covered;
  paths = paths;
  flat = flat_covered;
  values = values;
  once = λ t shape k rows at ids no_star. once t shape k rows ids no_star at;
}
