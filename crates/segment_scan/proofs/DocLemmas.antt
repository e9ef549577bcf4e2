-- Ascending documents, and the rows in their places.
use Rattle.std.proofs.Common.{◌≡◌, ◌∙◌, ◌<◌, ◌≤◌, ◌+◌, ◌&&◌, ◌||◌, ◌∷◌, [], ℕ, zero, suc, Bool, true, false, cond, All, List, length, map, get_or, refl, sym, ap, subst, arith, inl, inr, eq-eqb}
use Rattle.std.proofs.lemmas.Bool.{cases_lt, ne_eqb}
use Rattle.std.proofs.lemmas.List.Elements.{All-head, All-tail}
use Rattle.std.proofs.lemmas.List.FromFn.{fill_by_all}
use Rattle.std.specs.List.{filter, range_with_len}
use Rattle.std.specs.List.Sorted.{IsStrictlyIncreasing}
use Rattle.doc_lists.specs.Docs.{has_doc}
use Rattle.doc_lists.specs.Sets.{Up}

-- ---- which documents there are

pub increasing_up : (from : ℕ) (docs : List ℕ) → IsStrictlyIncreasing docs → ((j : ℕ) → j < length docs → from ≤ get_or docs j 0) → Up from docs
increasing_up from [] up least = tt
increasing_up from (d ∷ ds) up least = (
  least 0 (omega arith),
  increasing_up (d + 1) ds (λ k lt. let next : suc k + 1 ≡ suc (k + 1) = omega arith in subst (λ n. get_or (d ∷ ds) (suc k) 0 < get_or (d ∷ ds) n 0) next (up (suc k) (omega (arith, lt)))) (rise d ds up),
)
  where
    rise : (d : ℕ) (ds : List ℕ) → IsStrictlyIncreasing (d ∷ ds) → (j : ℕ) → j < length ds → d + 1 ≤ get_or ds j 0
    rise d ds up zero lt = let own = up 0 (omega (arith, lt)) in omega (arith, own)
    rise d ds up (suc j) lt =
        let before = rise d ds up j (omega (arith, lt)) in
        let next : suc j + 1 ≡ suc (suc j) = omega arith in
        let own : get_or (d ∷ ds) (suc j) 0 < get_or (d ∷ ds) (suc (suc j)) 0 = subst (λ n. get_or (d ∷ ds) (suc j) 0 < get_or (d ∷ ds) n 0) next (up (suc j) (omega (arith, lt))) in
        omega (arith, before, own)

none_before : (from doc : ℕ) (docs : List ℕ) → Up from docs → doc < from → has_doc docs doc ≡ false
none_before from doc [] up lt = refl
none_before from doc (d ∷ ds) up lt =
    ap (λ b. b || has_doc ds doc) (ne_eqb doc d (λ e. omega (arith, e, lt, up.0))) ∙ none_before (d + 1) doc ds up.1 (omega (arith, lt, up.0))

-- ---- the rows in the places of documents

module _ {X : Type 0} (row : ℕ → X) (p : X → Bool) where
  -- the rows of which the test holds, of so many from one place on
  abbrev kept : ℕ → ℕ → List X
  kept from n = filter p (map row (range_with_len from n))

  -- the documents from one on are just those of whose rows the test holds
  abbrev AreKept : ℕ → ℕ → List ℕ → Type 0
  AreKept from n docs = Up from docs × All (λ d. d < from + n) docs × ((d : ℕ) → from ≤ d → d < from + n → has_doc docs d ≡ p (row d))

  later : (from n : ℕ) (docs : List ℕ) → Up (from + 1) docs → AreKept from (suc n) docs → AreKept (from + 1) n docs
  later from n docs up are =
      let more : from + suc n ≡ from + 1 + n = omega arith in
      (up, subst (λ m. All (λ d. d < m) docs) more are.1, λ d le lt. are.2 d (omega (arith, le)) (omega (arith, lt)))

  first_kept : (from n : ℕ) (docs : List ℕ) → ((rest : List ℕ) → AreKept (from + 1) n rest → map row rest ≡ kept (from + 1) n) → AreKept from (suc n) docs
      → map row docs ≡ cond (p (row from)) (row from ∷ kept (from + 1) n) (kept (from + 1) n)
  first_kept from n [] after are =
      after [] (later from n [] tt are) ∙ ap (λ b. cond b (row from ∷ kept (from + 1) n) (kept (from + 1) n)) (are.2 from (omega arith) (omega arith))
  first_kept from n (d ∷ ds) after are = elim (cases_lt from d) [
    | inl less ↦
        let up : Up (from + 1) (d ∷ ds) = (omega (arith, less), are.0.1) in
        after (d ∷ ds) (later from n (d ∷ ds) up are)
        ∙ ap (λ b. cond b (row from ∷ kept (from + 1) n) (kept (from + 1) n)) (sym (none_before (from + 1) from (d ∷ ds) up (omega arith)) ∙ are.2 from (omega arith) (omega arith))
    | inr le ↦
        let same : d ≡ from = omega (arith, le, are.0.0) in
        let more : from + suc n ≡ from + 1 + n = omega arith in
        let yes : true ≡ p (row from) = sym (ap (λ b. b || has_doc ds from) (eq-eqb from d (sym same))) ∙ are.2 from (omega arith) (omega arith) in
        let rest : map row ds ≡ kept (from + 1) n = after ds (
          subst (λ m. Up (m + 1) ds) same are.0.1,
          All-tail (λ x. x < from + 1 + n) d ds (subst (λ m. All (λ x. x < m) (d ∷ ds)) more are.1),
          λ x from_x lt. ap (λ b. b || has_doc ds x) (sym (ne_eqb x d (λ e. omega (arith, e, same, from_x)))) ∙ are.2 x (omega (arith, from_x)) (omega (arith, lt)),
        ) in
        (λ i. row (same i) ∷ rest i) ∙ ap (λ b. cond b (row from ∷ kept (from + 1) n) (kept (from + 1) n)) yes
  ]

  -- in the places of the documents just where the test holds of their rows, there are the rows of which it holds
  rows_by_docs : (n from : ℕ) (docs : List ℕ) → AreKept from n docs → map row docs ≡ kept from n
  rows_by_docs zero from [] are = refl
  rows_by_docs zero from (d ∷ ds) are = let lt : d < from + 0 = All-head (λ x. x < from + 0) d ds are.1 in absurd (omega (arith, lt, are.0.0))
  rows_by_docs (suc n) from docs are = first_kept from n docs (rows_by_docs n (from + 1)) are

-- a list is its items, one place after the other
pub items_are : {X : Type 0} (d : X) (xs : List X) → xs ≡ map (λ k. get_or xs k d) (range_with_len 0 (length xs))
items_are d xs = fill_by_all (λ k. get_or xs k d) xs (length xs) d refl (λ k lt. refl)

both_step : {X : Type 0} (q : X → Bool) (x : X) (inner outer : List X) (a b : Bool) → q x ≡ b → filter q inner ≡ outer → filter q (cond a (x ∷ inner) inner) ≡ cond (a && b) (x ∷ outer) outer
both_step {X} q x inner outer true b e rest = ap (λ c. cond c (x ∷ filter q inner) (filter q inner)) e ∙ ap (λ (l : List X). cond b (x ∷ l) l) rest
both_step q x inner outer false b e rest = rest

-- the items of which both tests hold
pub filter_both : {X : Type 0} (d : X) (p q both : X → Bool) (xs : List X) → ((k : ℕ) → k < length xs → both (get_or xs k d) ≡ (p (get_or xs k d) && q (get_or xs k d))) → filter q (filter p xs) ≡ filter both xs
filter_both d p q both [] is = refl
filter_both d p q both (x ∷ xs) is =
    both_step q x (filter p xs) (filter both xs) (p x) (q x) refl (filter_both d p q both xs (λ k lt. is (suc k) (omega (arith, lt)))) ∙ ap (λ b. cond b (x ∷ filter both xs) (filter both xs)) (sym (is 0 (omega arith)))

-- in the places of the documents just where the test holds of their rows, there are the rows of which it holds
pub rows_filtered : {X : Type 0} (d : X) (p : X → Bool) (xs : List X) (docs : List ℕ) → IsStrictlyIncreasing docs → All (λ k. k < length xs) docs → ((k : ℕ) → k < length xs → has_doc docs k ≡ p (get_or xs k d))
    → map (λ k. get_or xs k d) docs ≡ filter p xs
rows_filtered {X} d p xs docs up below those =
    let none : 0 + length xs ≡ length xs = omega arith in
    rows_by_docs (λ k. get_or xs k d) p (length xs) 0 docs (increasing_up 0 docs up (λ j lt. omega arith), subst (λ n. All (λ k. k < n) docs) (sym none) below, λ k from lt. those k (omega (arith, lt)))
    ∙ ap (filter p) (sym (items_are d xs))

-- ascending documents below a number are those of the numbers below it of which the test holds
pub listed : (n : ℕ) (docs : List ℕ) (test : ℕ → Bool) → IsStrictlyIncreasing docs → All (λ k. k < n) docs → ((k : ℕ) → has_doc docs k ≡ test k) → docs ≡ filter test (range_with_len 0 n)
listed n docs test up below those =
    let none : 0 + n ≡ n = omega arith in
    sym (plain docs) ∙ rows_by_docs (λ k. k) test n 0 docs (increasing_up 0 docs up (λ j lt. omega arith), subst (λ m. All (λ k. k < m) docs) (sym none) below, λ k from lt. those k) ∙ ap (filter test) (plain (range_with_len 0 n))
  where
    plain : (xs : List ℕ) → map (λ k. k) xs ≡ xs
    plain [] = refl
    plain (x ∷ xs) = ap (λ (l : List ℕ). x ∷ l) (plain xs)
