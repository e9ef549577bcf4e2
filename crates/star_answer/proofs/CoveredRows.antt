-- The rows that the picks of a tree cover.
use Rattle.std.proofs.Common.{◌≡◌, ◌∙◌, ℕ, zero, suc, ◌<◌, ◌≤◌, MatchBool, All, ℤ, List, [], ◌∷◌, length, get_or, count_by, refl, sym, ap, subst, arith}
use Rattle.std.specs.Prelude.{slice_get}
use Rattle.values.specs.declared.value.Value.{Value}
use Rattle.agg_laws.specs.declared.aggregate_kind.AggKind.{AggKind}
use Rattle.agg_laws.specs.declared.tree_shape.TreeShape.{TreeShape}
use Rattle.state_columns.specs.Docs.{Doc, HaveIds, projected}
use Rattle.star_tree.specs.Picks as asks
use Rattle.star_tree.specs.Picks.{holds_from}
use Rattle.agg_laws.specs.Tree.{HaveNoStar, dim, star}
use Rattle.table_schema.specs.declared.query.Agg.{Agg}
use Rattle.table_schema.specs.declared.query.BoundQuery.{BoundQuery}
use Rattle.table_schema.specs.Conditions.{all_hold}
use Rattle.star_walk.specs.Covering.{AreCovered, HaveValues, counts, covers, stands_for}
use Rattle.star_answer.specs.Covered.{HaveValuesOf, IsCoveredOnce, shown_picks}
use Rattle.star_answer.specs.Served.{AreProjected, AsksFor, IsProjected}
use Rattle.star_answer.proofs.HoldLemmas.{holds_same}
use Rattle.star_answer.proofs.ServedSteps.{have_ids, no_star}

-- a row and its entry
projected_at : (split : List ℕ) (pairs : List Agg) (values : ℕ → List Value)
    (rows : List (List Value)) (entries : List (List ℕ × List ℤ))
    → AreProjected split pairs values rows entries → (at : ℕ) → at < length rows
    → IsProjected split pairs values (get_or rows at []) (get_or entries at ([], []))
projected_at split pairs values [] entries h at lt = absurd (omega arith)
projected_at split pairs values (row ∷ rows) [] h at lt = absurd h
projected_at split pairs values (row ∷ rows) (e ∷ es) h zero lt = h.0
projected_at split pairs values (row ∷ rows) (e ∷ es) h (suc at) lt =
    projected_at split pairs values rows es h.1 at (omega arith)

-- there are as many of both
as_many : (split : List ℕ) (pairs : List Agg) (values : ℕ → List Value)
    (rows : List (List Value)) (entries : List (List ℕ × List ℤ))
    → AreProjected split pairs values rows entries → length entries ≡ length rows
as_many split pairs values [] [] h = refl
as_many split pairs values [] (e ∷ es) h = absurd h
as_many split pairs values (row ∷ rows) [] h = absurd h
as_many split pairs values (row ∷ rows) (e ∷ es) h =
    ap suc (as_many split pairs values rows es h.1)

length_projected : (ks : List AggKind) (entries : List (List ℕ × List ℤ))
    → length (projected ks entries) ≡ length entries
length_projected ks [] = refl
length_projected ks (e ∷ es) = ap suc (length_projected ks es)

same_ids : (ks : List AggKind) (entries : List (List ℕ × List ℤ)) (at : ℕ)
    → (get_or (projected ks entries) at ([], [])).0 ≡ (get_or entries at ([], [])).0
same_ids ks [] at = refl
same_ids ks (e ∷ es) zero = refl
same_ids ks (e ∷ es) (suc at) = same_ids ks es at

module _ (query : BoundQuery) (shape : TreeShape) (split : List ℕ) (pairs : List Agg)
    (values : ℕ → List Value) (t : asks.Task) (rows : List (List Value))
    (entries : List (List ℕ × List ℤ)) (dims : shape.dims ≡ length split)
    (at_most : (d : ℕ) → d < length split → length (values d) ≤ star)
    (asks_for : AsksFor query split values t)
    (projects : AreProjected split pairs values rows entries) where
  abbrev own : List Doc
  own = projected shape.kinds entries

  pub own_ids : HaveIds shape.dims own
  own_ids = subst (λ n. HaveIds n own) (sym dims)
      (have_ids split pairs values shape.kinds rows entries projects)

  pub own_no_star : HaveNoStar shape.dims own
  own_no_star = subst (λ n. HaveNoStar n own) (sym dims)
      (no_star split pairs values shape.kinds at_most rows entries projects)

  module _ (at : ℕ) (lt : at < length rows) where
    abbrev row : List Value
    row = get_or rows at []

    abbrev ids : List ℕ
    ids = (get_or entries at ([], [])).0

    its : IsProjected split pairs values (get_or rows at []) (get_or entries at ([], []))
    its = projected_at split pairs values rows entries projects at lt

    there : at < length (projected shape.kinds entries)
    there = omega (
      arith,
      lt,
      as_many split pairs values rows entries projects,
      length_projected shape.kinds entries,
    )

    holds : holds_from t shape.dims 0 ids ≡ all_hold row query.conjuncts
    holds = ap (λ n. holds_from t n 0 ids) dims
        ∙ holds_same query split pairs values t asks_for row (get_or entries at ([], [])) its

    pub covered_row : AreCovered t shape.dims (shown_picks t shape entries) own
        → IsCoveredOnce query t shape.dims (shown_picks t shape entries) row ids
    covered_row all =
        let ps = shown_picks t shape entries in
        let k = shape.dims in
        let h = all at ([], []) there in
        subst (λ b. MatchBool b
        ((count_by (covers ids) ps ≡ 1) × (count_by (counts t k ids) ps ≡ 1))
        ((count_by (covers ids) ps ≤ 1) × (count_by (counts t k ids) ps ≡ 0))) holds
        (subst (λ x. MatchBool (holds_from t k 0 x)
        ((count_by (covers x) ps ≡ 1) × (count_by (counts t k x) ps ≡ 1))
        ((count_by (covers x) ps ≤ 1) × (count_by (counts t k x) ps ≡ 0)))
        (same_ids shape.kinds entries at) h)

    pub values_row : All (λ p. HaveValues t shape.dims own p.1) (shown_picks t shape entries)
        → All (λ p. HaveValuesOf t split values row ids p.1) (shown_picks t shape entries)
    values_row all i e within j doc inside on d below g =
        let ds = (get_or (shown_picks t shape entries) i e).1 in
        let q = (get_or ds j doc).0 in
        let same = same_ids shape.kinds entries at in
        let own_id : dim d q ≡ dim d ids =
        all i e within j doc inside at ([], []) there
        (ap (λ x. stands_for (get_or ds j doc) x) same ∙ on) d (omega (arith, below, dims)) g
        ∙ ap (dim d) same in
        ap (slice_get (values d)) own_id ∙ its.ids d below
