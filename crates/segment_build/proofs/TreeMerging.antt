-- Merged documents make the tree of the documents that were merged.
use Rattle.std.proofs.Common.{◌≡◌, ◌≢◌, ◌<◌, Bool, ℕ, ℤ, List, [], ◌∷◌, Option, Some, None, map, refl, sym, ap, ◌∙◌}
use Rattle.std.specs.declared.cmp.Ordering.TheVariants.{Less, Equal, Greater}
use Rattle.std.specs.FinMap.Entries.{by_order}
use Rattle.std.proofs.lemmas.Cmp.{nat_list_cmp_total}
use Rattle.std.specs.Ordering.{eq_by_cmp, match_ordering}
use Rattle.values.specs.declared.value.Value.{Value}
use Rattle.values.specs.Order.{value_order}
use Rattle.agg_laws.specs.declared.aggregate_kind.AggKind.{AggKind}
use Rattle.agg_laws.specs.declared.states.AggState.{AggState}
use Rattle.agg_laws.specs.declared.tree_shape.TreeShape.{TreeShape}
use Rattle.state_columns.specs.Docs.{Doc, projected}
use Rattle.agg_laws.specs.Merged.{add, join_some, part, total}
use Rattle.agg_laws.specs.Rows.{merged_rows, row_of}
use Rattle.agg_laws.specs.Tree.{star, dim, dims_order, merged_docs, root_of, tree_of, HaveNoStar}
use Rattle.state_columns.proofs.DocLemmas.{rows_join}
use Rattle.state_columns.proofs.MergedLemmas.{Merged_same, Merged-sorted, is_sorted-Merged}
use Rattle.state_columns.proofs.MergedLemmas.{join_swap}
use Rattle.state_columns.proofs.ListLemmas.{same_dims}
use Rattle.table_schema.specs.declared.settings.TreeSetting.{TreeSetting}
use Rattle.segment_file.specs.Columns.{place_of}
use Rattle.segment_file.specs.Ordered.{ordered, placed, sorted_by, value_in}
use Rattle.segment_file.specs.Trees.{documents, number_for, tree_row}
use Rattle.segment_build.proofs.Stable.{same_distinct}

-- merged documents are merged again in vain
pub merged_again : (docs rows : List Doc) → docs ≡ merged_docs merged_rows rows
    → merged_docs merged_rows docs ≡ docs
merged_again docs rows is =
    ap (merged_docs merged_rows) is
    ∙ Merged-sorted dims_order nat_list_cmp_total same_dims merged_rows rows_join (merged_docs merged_rows rows)
    (is_sorted-Merged dims_order nat_list_cmp_total same_dims merged_rows rows_join rows)
    ∙ sym is

pub same_tree : (shape : TreeShape) (docs rows : List Doc) → docs ≡ merged_docs merged_rows rows
    → tree_of merged_rows shape shape.dims docs ≡ tree_of merged_rows shape shape.dims rows
same_tree shape docs rows is = ap (root_of merged_rows shape shape.dims) (merged_again docs rows is ∙ is)

no_star_add : (k : ℕ) (ids : List ℕ) (s : List AggState) (es : List Doc) → ((d : ℕ) → d < k → dim d ids ≢ star) → HaveNoStar k es
    → HaveNoStar k (add dims_order merged_rows ids s es)
no_star_add k ids s [] own h = (own, tt)
no_star_add k ids s (e ∷ es) own h =
    elim (dims_order ids e.0) as (λ r. HaveNoStar k (by_order r ((ids, s) ∷ e ∷ es) ((e.0, merged_rows s e.1) ∷ es) (e ∷ add dims_order merged_rows ids s es))) [
      | Less ↦ (own, h)
      | Equal ↦ h
      | Greater ↦ (h.0, no_star_add k ids s es own h.1)
    ]

pub no_star_merged : (k : ℕ) (es : List Doc) → HaveNoStar k es → HaveNoStar k (merged_docs merged_rows es)
no_star_merged k [] h = tt
no_star_merged k (e ∷ es) h = no_star_add k e.0 e.1 (merged_docs merged_rows es) h.0 (no_star_merged k es h.1)

-- ---- rows in another order

module _ (ks : List AggKind) (h : List Value → List ℕ × List ℤ) (p : List ℕ → Bool) where
  placed_total : (column : ℕ) (row : List Value) (rows : List (List Value))
      → total merged_rows p (projected ks (map h (placed column row rows))) ≡ total merged_rows p (projected ks (map h (row ∷ rows)))
  placed_total column row [] = refl
  placed_total column row (x ∷ xs) =
      let own = part p ((h row).0, row_of ks ((h row).1 ∷ [])) in
      let first = part p ((h x).0, row_of ks ((h x).1 ∷ [])) in
      elim (value_order (value_in column row) (value_in column x)) as
      (λ o. total merged_rows p (projected ks (map h (match_ordering o (row ∷ x ∷ xs) (row ∷ x ∷ xs) (x ∷ placed column row xs)))) ≡ total merged_rows p (projected ks (map h (row ∷ x ∷ xs)))) [
        | Less ↦ refl
        | Equal ↦ refl
        | Greater ↦ ap (join_some merged_rows first) (placed_total column row xs)
            ∙ join_swap merged_rows rows_join first own (total merged_rows p (projected ks (map h xs)))
      ]

  sorted_total : (column : ℕ) (rows : List (List Value))
      → total merged_rows p (projected ks (map h (sorted_by column rows))) ≡ total merged_rows p (projected ks (map h rows))
  sorted_total column [] = refl
  sorted_total column (row ∷ rows) =
      placed_total column row (sorted_by column rows)
      ∙ ap (join_some merged_rows (part p ((h row).0, row_of ks ((h row).1 ∷ [])))) (sorted_total column rows)

  ordered_total : (sorted : Option ℕ) (rows : List (List Value))
      → total merged_rows p (projected ks (map h (ordered sorted rows))) ≡ total merged_rows p (projected ks (map h rows))
  ordered_total None rows = refl
  ordered_total (Some column) rows = sorted_total column rows

-- a tree has the same documents of rows in whatever order, once these are merged
pub merged_ordered : (sorted : Option ℕ) (rows : List (List Value)) (tree : TreeSetting)
    → merged_docs merged_rows (documents rows tree) ≡ merged_docs merged_rows (documents (ordered sorted rows) tree)
merged_ordered sorted rows tree =
    let ks = tree.shape.kinds in
    let os = ordered sorted rows in
    let same : documents os tree ≡ projected ks (map (tree_row rows tree) os) =
    λ i. projected ks (map (λ row. (map (λ c. place_of (same_distinct c sorted rows i) (value_in c row)) tree.split, map (number_for row) tree.pairs)) os) in
    Merged_same dims_order nat_list_cmp_total same_dims merged_rows rows_join (documents rows tree) (documents os tree) (λ q.
    sym (ordered_total ks (tree_row rows tree) (eq_by_cmp dims_order q) sorted rows)
    ∙ ap (total merged_rows (eq_by_cmp dims_order q)) (sym same))

pub docs_are : (sorted : Option ℕ) (rows : List (List Value)) (tree : TreeSetting) (docs : List Doc) → docs ≡ merged_docs merged_rows (documents rows tree)
    → docs ≡ merged_docs merged_rows (documents (ordered sorted rows) tree)
docs_are sorted rows tree docs is = is ∙ merged_ordered sorted rows tree
