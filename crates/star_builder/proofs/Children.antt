-- The documents of the children of a node.
use Rattle.agg_laws.specs.declared.states.AggState.{AggState}
use Rattle.agg_laws.specs.Rows.{merged_rows, row_weight}
use Rattle.state_columns.specs.Docs.{Doc, HaveIds, HaveShape}
use Rattle.agg_laws.specs.declared.aggregate_kind.AggKind.{AggKind}
use Rattle.agg_laws.specs.Tree.{HaveNoStar, star, dims_order, dim, set_star, merged_docs, docs_with}
use Rattle.std.proofs.Common.{◌≡◌, ◌≢◌, ℕ, zero, suc, ◌+◌, ◌<◌, ◌≤◌, Bool, true, false, cond, ◌==◌}
use Rattle.std.proofs.Common.{◌&&◌, T, List, [], ◌∷◌, ◌++◌, length, take, refl, sym, ap, subst, ◌∙◌}
use Rattle.std.proofs.Common.{arith, inl, inr}
use Rattle.std.specs.declared.cmp.Ordering.{Ordering}
use Rattle.std.specs.declared.cmp.Ordering.TheVariants.{Less, Equal, Greater}
use Rattle.std.specs.Ordering.{nat_cmp, is_lt, ordering_then}
use Rattle.std.specs.Cmp.Lexicographic.{slice_cmp}
use Rattle.std.specs.FinMap.{is_sorted, nat_cmp-IsAntisymmetric, slice_cmp-IsAntisymmetric}
use Rattle.std.specs.FinMap.Entries.{by_order, below_all, is_sorted-where_key}
use Rattle.std.proofs.lemmas.Cmp.{nat_list_cmp_total}
use Rattle.std.proofs.lemmas.Bool.{cases_order, eqb-true}
use Rattle.std.proofs.lemmas.List.{get_or-set_other}
use Rattle.std.proofs.Math.Seq.{take-suc, take-suc-set}
use Rattle.std.proofs.Math.ListN.{length-set}
use Rattle.agg_laws.specs.Merged.{rekey, add, weights}
use Rattle.agg_laws.specs.Numbers.{most_stored}
use Rattle.agg_laws.specs.laws.Rows as rows
use Rattle.state_columns.specs.Documents.{BeginWith, AreAlike}
use Rattle.state_columns.proofs.WeightLemmas.{weights-filter, weights-Merged}
use Rattle.state_columns.proofs.DocLemmas.{rows_join}
use Rattle.state_columns.proofs.MergedLemmas.{is_sorted-Merged}
use Rattle.star_builder.specs.Building.{DocsAt, AtLeast, Rising, Ordinary, Proper}
use Rattle.star_tree.proofs.Runs.{equal_is, greater_is}

pub as_T : (b : Bool) → b ≡ true → T b
as_T b e = subst T (sym e) tt

pub as_true : (b : Bool) → T b → b ≡ true
as_true true h = refl
as_true false h = absurd h

first : (a b : Bool) → (a && b) ≡ true → a ≡ true
first true b p = refl
first false b p = p

second : (a b : Bool) → (a && b) ≡ true → b ≡ true
second true b p = p
second false b p = cc

less : (o : Ordering) → is_lt o ≡ true → o ≡ Less
less Less p = refl
less Equal p = cc
less Greater p = cc

clash : {A : Type 0} → Greater ≡ Less → A
clash e = cc

head_is : (a b : ℕ) (xs ys : List ℕ) → a ∷ xs ≡ b ∷ ys → a ≡ b
head_is a b xs ys e = cc

tail_is : (a b : ℕ) (xs ys : List ℕ) → a ∷ xs ≡ b ∷ ys → xs ≡ ys
tail_is a b xs ys e = cc

lex_head : (a b : ℕ) (o : Ordering) → ordering_then (nat_cmp a b) o ≡ Less → a ≤ b
lex_head a b o e = elim (cases_order a b) as (λ _. a ≤ b) [
  | inl is ↦ omega (arith, is)
  | inr h ↦ elim h as (λ _. a ≤ b) [
    | inl lt ↦ omega (arith, lt)
    | inr gt ↦ clash (ap (λ r.
        ordering_then r o) (sym (greater_is a b gt)) ∙ e)
  ]
]

lex_le : (d : ℕ) (x y : List ℕ) → take d x ≡ take d y → slice_cmp nat_cmp x y ≡ Less
    → d < length x → d < length y → dim d x ≤ dim d y
lex_le d [] y t e h k = absurd (omega arith)
lex_le d (a ∷ as') [] t e h k = absurd (omega arith)
lex_le zero (a ∷ as') (b ∷ bs) t e h k = lex_head a b (slice_cmp nat_cmp as' bs) e
lex_le (suc d) (a ∷ as') (b ∷ bs) t e h k =
    lex_le d as' bs (tail_is a b (take d as') (take d bs) t) (ap (λ r. ordering_then r (slice_cmp
    nat_cmp as' bs)) (sym (equal_is a b (head_is a b (take d as') (take d bs) t)))
    ∙ e) (omega arith) (omega arith)

at_least_of : (k d : ℕ) (path : List ℕ) (x : List ℕ) (es : List Doc) → d < k → length x ≡ k
    → take d x ≡ path → DocsAt k d path es → below_all dims_order x es ≡ true
    → AtLeast d (dim d x) es
at_least_of k d path x [] lt l t h b = tt
at_least_of k d path x (e ∷ es) lt l t h b = (
  lex_le d x e.0 (t ∙ sym h.1) (less _ (first _ _ b)) (omega arith) (omega (arith, h.0)),
  at_least_of k d path x es lt l t h.3 (second _ _ b),
)

rising_docs : (k d : ℕ) (path : List ℕ) (es : List Doc) → d < k → DocsAt k d path es
    → is_sorted dims_order es ≡ true → Rising d es
rising_docs k d path [] lt h s = tt
rising_docs k d path (e ∷ es) lt h s = (
  at_least_of k d path e.0 es lt h.0 h.1 h.3 (first _ _ s),
  rising_docs k d path es lt h.3 (second _ _ s),
)

ordinary_docs : (k d : ℕ) (path : List ℕ) (es : List Doc) → d < k → DocsAt k d path es
    → Ordinary d es
ordinary_docs k d path [] lt h = tt
ordinary_docs k d path (e ∷ es) lt h = (h.2 d (omega arith) lt, ordinary_docs k d path es lt h.3)

pub rising_of : (k d : ℕ) (docs : List Doc) → d < k → Proper k d docs → Rising d docs
rising_of k d docs lt p = rising_docs k d p.path docs lt p.alike p.ascending

pub ordinary_of : (k d : ℕ) (docs : List Doc) → d < k → Proper k d docs → Ordinary d docs
ordinary_of k d docs lt p = ordinary_docs k d p.path docs lt p.alike

-- what is asked of each document
abbrev DocAt : ℕ → ℕ → List ℕ → List ℕ → Type 0
DocAt k d path x = (length x ≡ k) × (take d x ≡ path) × ((i : ℕ) → d ≤ i → i < k → dim i x ≢ star)

kept : (k d v : ℕ) (path : List ℕ) (b : Bool) (e : Doc) (es : List Doc) → (b ≡ true
    → DocAt k d path e.0) → DocsAt k d path es → DocsAt k d path (cond b (e ∷ es) es)
kept k d v path true e es p h = let q = p refl in (q.0, q.1, q.2, h)
kept k d v path false e es p h = h

own_docs_at : (k d v : ℕ) (path : List ℕ) (es : List Doc) → d < k → DocsAt k d path es
    → DocsAt k (suc d) (path ++ (v ∷ [])) (docs_with d v es)
own_docs_at k d v path [] lt h = tt
own_docs_at k d v path (e ∷ es) lt h =
    kept k (suc d) v (path ++ (v ∷ [])) (dim d e.0 == v) e (docs_with d v es)
    (λ t. (
      h.0,
      take-suc e.0 d star (omega (arith, h.0))
          ∙ (λ i. h.1 i ++ (eqb-true (dim d e.0) v t i ∷ [])),
      λ i le l. h.2 i (omega arith) l,
    ))
    (own_docs_at k d v path es lt h.3)

pub own_proper : (k d v : ℕ) (docs : List Doc) → d < k → Proper k d docs
    → Proper k (suc d) (docs_with d v docs)
own_proper k d v docs lt p = record {
  path = p.path ++ (v ∷ []);
  alike = own_docs_at k d v p.path docs lt p.alike;
  ascending = as_true _ (is_sorted-where_key dims_order (λ x. dim d x == v) docs (as_T _
      p.ascending));
  weight_fits = (let w = weights-filter row_weight (λ e. dim d e.0 == v) docs in
      omega (arith, w, p.weight_fits));
}

star_docs_at : (k d : ℕ) (path : List ℕ) (es : List Doc) → d < k → DocsAt k d path es
    → DocsAt k (suc d) (path ++ (star ∷ [])) (rekey (set_star d) es)
star_docs_at k d path [] lt h = tt
star_docs_at k d path (e ∷ es) lt h = (
  length-set e.0 d star ∙ h.0,
  take-suc-set e.0 d star (omega (arith, h.0))
      ∙ ap (λ t. t ++ (star ∷ [])) h.1,
  (λ i le l q. let ne : i ≢ d = omega arith in
      h.2 i (omega arith) l (rw get_or-set_other at q)),
  star_docs_at k d path es lt h.3,
)

add_docs_at : (k d : ℕ) (path : List ℕ) (x : List ℕ) (s : List AggState) (es : List Doc)
    → DocAt k d path x → DocsAt k d path es → DocsAt k d path (add dims_order merged_rows x s es)
add_docs_at k d path x s [] p h = (p.0, p.1, p.2, tt)
add_docs_at k d path x s (e ∷ es) p h =
    elim (dims_order x e.0) as (λ r. DocsAt k d path (by_order r ((x, s) ∷ e ∷ es) ((
      e.0,
      merged_rows s e.1,
    ) ∷ es) (e ∷ add dims_order merged_rows x s es))) [
      | Less ↦ (p.0, p.1, p.2, h)
      | Equal ↦ h
      | Greater ↦ (h.0, h.1, h.2, add_docs_at k d path x s es p h.3)
    ]

pub merged_docs_at : (k d : ℕ) (path : List ℕ) (es : List Doc) → DocsAt k d path es
    → DocsAt k d path (merged_docs merged_rows es)
merged_docs_at k d path [] h = tt
merged_docs_at k d path (e ∷ es) h = add_docs_at k d path e.0 e.1 (merged_docs merged_rows es)
    (h.0, h.1, h.2) (merged_docs_at k d path es h.3)

weights-rekey : (f : List ℕ → List ℕ) (es : List Doc) → weights row_weight (rekey f es)
    ≡ weights row_weight es
weights-rekey f [] = refl
weights-rekey f (e ∷ es) = ap (λ n. row_weight e.1 + n) (weights-rekey f es)

pub star_proper : (k d : ℕ) (docs : List Doc) → d < k → Proper k d docs
    → Proper k (suc d) (merged_docs merged_rows (rekey (set_star d) docs))
star_proper k d docs lt p = record {
  path = p.path ++ (star ∷ []);
  alike = merged_docs_at k (suc d) (p.path ++ (star ∷ [])) (rekey (set_star d) docs) (star_docs_at
      k d p.path docs lt p.alike);
  ascending = as_true _ (is_sorted-Merged dims_order nat_list_cmp_total (slice_cmp-IsAntisymmetric
      nat_cmp-IsAntisymmetric) merged_rows rows_join (rekey (set_star d) docs));
  weight_fits = (let w = weights-Merged row_weight dims_order merged_rows rows.row_weight_both (rekey
      (set_star d) docs) in let r = weights-rekey (set_star d) docs in
      omega (arith, w, r, p.weight_fits));
}

begin_with : (k d : ℕ) (path : List ℕ) (es : List Doc) → DocsAt k d path es → BeginWith d path es
begin_with k d path [] h = tt
begin_with k d path (e ∷ es) h = (h.1, begin_with k d path es h.3)

pub alike_docs : (k d : ℕ) (docs : List Doc) → Proper k d docs → AreAlike d docs
alike_docs k d [] p = tt
alike_docs k d (e ∷ es) p =
    subst (λ path. BeginWith d path es) (sym p.alike.1) (begin_with k d p.path es p.alike.3)

docs_at_all : (k : ℕ) (ks : List AggKind) (es : List Doc) → HaveShape k ks es → HaveNoStar k es
    → DocsAt k 0 [] es
docs_at_all k ks [] h n = tt
docs_at_all k ks (e ∷ es) h n = (h.0, refl, (λ i low lt. n.0 i lt), docs_at_all k ks es h.2 n.1)

-- the merged documents of rows of a shape, with no star, are those of a root
pub merged_proper : (k : ℕ) (ks : List AggKind) (rows : List Doc) → HaveShape k ks rows
    → HaveNoStar k rows → weights row_weight rows ≤ most_stored
    → Proper k 0 (merged_docs merged_rows rows)
merged_proper k ks rows' h n weight_fits = record {
  path = [];
  alike = merged_docs_at k 0 [] rows' (docs_at_all k ks rows' h n);
  ascending = as_true _ (is_sorted-Merged dims_order nat_list_cmp_total
      (slice_cmp-IsAntisymmetric nat_cmp-IsAntisymmetric) merged_rows rows_join rows');
  weight_fits = (let w = weights-Merged row_weight dims_order merged_rows rows.row_weight_both rows'
      in omega (arith, w, weight_fits));
}

pub have_ids : (k : ℕ) (ks : List AggKind) (es : List Doc) → HaveShape k ks es → HaveIds k es
have_ids k ks [] h = tt
have_ids k ks (e ∷ es) h = (h.0, have_ids k ks es h.2)
