-- Whether trees take no more bytes than they may is told by a test.
use Rattle.std.proofs.Common.{◌≡◌, ◌≢◌, ◌≤◌, ℕ, zero, suc, All, List, [], ◌∷◌, nat_le, Bool, true, false, Some, refl, subst, arith}
use Rattle.std.specs.Prelude.{slice_get}
use Rattle.std.specs.List.{list_all}
use Rattle.std.proofs.lemmas.Bool.Decides.{nat_tests}
use Rattle.std.proofs.lemmas.List.Elements.{All-cons, All-head, All-nil, All-tail}
use Rattle.star_tree.specs.Flat.{tree_bytes}
use Rattle.agg_laws.specs.Rows.{merged_rows}
use Rattle.star_file.specs.Reading.{doc_width}
use Rattle.star_file.specs.Rules.{most_bytes}
use Rattle.values.specs.declared.value.Value.{Value}
use Rattle.table_schema.specs.declared.settings.TreeSetting.{TreeSetting}
use Rattle.segment_file.specs.Ordered.{ordered}
use Rattle.segment_file.specs.Trees.{TreeFits, nested}
use Rattle.segment_file.proofs.ImageRows.{and_first, and_second}
use Rattle.segment_build.specs.Growing.{FitIsTested, LargeIsTested, tree_fits, trees_fit}

le_tested : (n m : ℕ) → n ≤ m → nat_le n m ≡ true
le_tested n m le = grind (arith, nat_tests)

le_told : (n m : ℕ) → nat_le n m ≡ true → n ≤ m
le_told n m test = grind (arith, nat_tests)

-- a test that is not passed fails
else_false : (b : Bool) → b ≢ true → b ≡ false
else_false true other = absurd (other refl)
else_false false other = refl

module _ (rows : List (List Value)) where
  one_tested : (tree : TreeSetting) → TreeFits rows tree → tree_fits rows tree ≡ true
  unfolding tree_fits
  one_tested tree fits = le_tested (tree_bytes merged_rows (doc_width tree.shape) (nested rows tree)) most_bytes fits.at_most

  one_told : (tree : TreeSetting) → tree_fits rows tree ≡ true → TreeFits rows tree
  unfolding tree_fits
  one_told tree test = record { at_most = le_told (tree_bytes merged_rows (doc_width tree.shape) (nested rows tree)) most_bytes test }

  all_tested : (trees : List TreeSetting) → All (TreeFits rows) trees → list_all (tree_fits rows) trees ≡ true
  all_tested [] all = refl
  all_tested (t ∷ ts) all =
      let first : tree_fits rows t ≡ true = one_tested t (All-head (TreeFits rows) t ts all) in
      rw first (all_tested ts (All-tail (TreeFits rows) t ts all))

  all_told : (trees : List TreeSetting) → list_all (tree_fits rows) trees ≡ true → All (TreeFits rows) trees
  all_told [] test = All-nil (TreeFits rows)
  all_told (t ∷ ts) test =
      All-cons (TreeFits rows) t ts (one_told t (and_first (tree_fits rows t) (list_all (tree_fits rows) ts) test)) (all_told ts (and_second (tree_fits rows t) (list_all (tree_fits rows) ts) test))

  at_told : (trees : List TreeSetting) (n : ℕ) (tree : TreeSetting) → slice_get trees n ≡ Some tree → list_all (tree_fits rows) trees ≡ true → TreeFits rows tree
  at_told [] n tree at test = absurd cc
  at_told (t ∷ ts) zero tree at test =
      let same : t ≡ tree = cc in
      subst (TreeFits rows) same (one_told t (and_first (tree_fits rows t) (list_all (tree_fits rows) ts) test))
  at_told (t ∷ ts) (suc n) tree at test = at_told ts n tree at (and_second (tree_fits rows t) (list_all (tree_fits rows) ts) test)

pub fit_tested : FitIsTested
unfolding trees_fit
fit_tested table rows =
    let os : List (List Value) = ordered table.settings.sorted rows in
    (all_told os table.settings.trees, all_tested os table.settings.trees)

pub large_tested : LargeIsTested
unfolding trees_fit
large_tested table rows t large =
    let os : List (List Value) = ordered table.settings.sorted rows in
    else_false (list_all (tree_fits os) table.settings.trees) (λ test. large.over (at_told os table.settings.trees t large.tree large.at test))
