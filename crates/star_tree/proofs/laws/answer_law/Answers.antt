use Rattle.std.proofs.Common.{◌≡◌, ℕ, ◌&&◌, List, [], ◌∷◌, map, Option, None, refl, ◌∙◌}
use Rattle.std.specs.Prelude.{ℤ, ◌↔◌}
use Rattle.std.specs.FinMap.{find}
use Rattle.std.specs.Ordering.{eq_by_cmp}
use Rattle.agg_laws.specs.declared.aggregate_kind.AggKind.{AggKind}
use Rattle.agg_laws.specs.declared.states.AggState.{AggState}
use Rattle.agg_laws.specs.declared.tree_shape.TreeShape.{TreeShape}
use Rattle.agg_laws.specs.Rows.{merged_rows}
use Rattle.agg_laws.specs.Merged.{rekey}
use Rattle.agg_laws.specs.Tree.{dims_order, tree_of, HaveNoStar}
use Rattle.state_columns.specs.Docs.{HaveIds, projected, states_of}
use Rattle.star_tree.specs.Picks.{Task, picks, holds_from}
use Rattle.star_tree.specs.Groups.{key_from, groups_of, passing, rows_with_key}
use Rattle.state_columns.proofs.MergedLemmas.{total-rekey}
use Rattle.state_columns.proofs.DocLemmas.{rows_join, own_entries, total-projected}
use Rattle.star_tree.proofs.AnswerLemmas.{answer_total, same_groups}
use Rattle.star_tree.proofs.laws.answer_law.Goals as goal

ids_projected : (ks : List AggKind) (k : ℕ) (rows : List (List ℕ × List ℤ)) → HaveIds k rows
    → HaveIds k (projected ks rows)
ids_projected ks k [] h = tt
ids_projected ks k (row ∷ rows) h = (h.0, ids_projected ks k rows h.1)

no_star_projected : (ks : List AggKind) (k : ℕ) (rows : List (List ℕ × List ℤ)) → HaveNoStar k rows
    → HaveNoStar k (projected ks rows)
no_star_projected ks k [] h = tt
no_star_projected ks k (row ∷ rows) h = (h.0, no_star_projected ks k rows h.1)

states : (t : Task) (shape : TreeShape) (k : ℕ) (ks : List AggKind) (rows : List (List ℕ × List ℤ))
    (key : List ℕ) → HaveIds k rows → HaveNoStar k rows
    → find dims_order key
    (groups_of merged_rows t k
    (passing t k (picks merged_rows t k (tree_of merged_rows shape k (projected ks rows)))))
    ≡ states_of ks (map (λ row. row.1) (rows_with_key t k key rows))
states t shape k ks rows key ids no_star =
    let docs = projected ks rows in
    let read = passing t k (picks merged_rows t k (tree_of merged_rows shape k docs)) in
    own_entries (rekey (key_from t k 0) read) key
    ∙ total-rekey merged_rows rows_join (key_from t k 0) (eq_by_cmp dims_order key) read
    ∙ answer_total merged_rows rows_join t k (eq_by_cmp dims_order key) shape docs
    (ids_projected ks k rows ids) (no_star_projected ks k rows no_star)
    ∙ total-projected ks
    (λ x. holds_from t k 0 x && eq_by_cmp dims_order key (key_from t k 0 x)) rows

none_of_none : (ks : List AggKind) (o : Option (List AggState)) (rows : List (List ℕ × List ℤ)) → o
    ≡ states_of ks (map (λ row. row.1) rows) → (o ≡ None) ↔ (rows ≡ [])
none_of_none ks o [] is = ((λ _. refl), (λ _. is))
none_of_none ks o (row ∷ rows) is = ((λ e. cc), (λ e. cc))

pub returns : goal.returns
returns c = record {
  groups = λ t shape k docs ids no_star. same_groups merged_rows rows_join t k shape docs ids
      no_star;
  states = states;
  keys = λ t shape k ks rows key ids no_star. none_of_none ks
      (find dims_order key
      (groups_of merged_rows t k
      (passing t k (picks merged_rows t k (tree_of merged_rows shape k (projected ks rows))))))
      (rows_with_key t k key rows) (states t shape k ks rows key ids no_star);
}
