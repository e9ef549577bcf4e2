-- Documents in two parts: those that are sure, and those whose ids are to be checked.
use Rattle.std.proofs.Common.{◌≡◌, ◌∙◌, ◌<◌, ◌+◌, ◌&&◌, ◌||◌, ◌++◌, ◌∷◌, [], ℕ, zero, suc, Bool, true, false, not, nat_eq, inl, inr, All, List, Option, Some, None, length, map, get_or, slice_get, refl, sym, ap, subst, eq-eqb, arith}
use Rattle.std.specs.Prelude.{if◌then◌else◌, cond, IsPermutation}
use Rattle.std.specs.List.{filter, list_all, range_with_len}
use Rattle.std.proofs.lemmas.Bool.{cases_lt, false≢true}
use Rattle.std.proofs.lemmas.List.{map-append}
use Rattle.std.proofs.lemmas.List.Filters.{length-filter_both}
use Rattle.std.proofs.lemmas.List.Sorted.{IsPermutation-filter_both, IsPermutation-map}
use Rattle.outside.specs.Files.{Files}
use Rattle.doc_lists.specs.Docs.{has_doc}
use Rattle.doc_lists.specs.Sets.{AreThose}
use Rattle.table_schema.specs.declared.query.Conjunct.{Conjunct}
use Rattle.table_schema.specs.declared.query.Conjunct.TheVariants.{One, Many}
use Rattle.segment_head.specs.Heads.{Seen}
use Rattle.segment_plan.specs.declared.plans.IndexChoice.{IndexChoice}
use Rattle.segment_plan.specs.declared.plans.IndexChoice.TheVariants.{Unindexed, Sorted, Inverted, Range}
use Rattle.index_filter.specs.Indexes.{AddsUnsure, HasUnsure, is_unsure}
use Rattle.segment_plan.specs.Served.{choice_at, is_served, unserved}
use Rattle.segment_plan.specs.RowsLeft.{indexed, is_indexed, sure_choices}
use Rattle.segment_scan.proofs.DocLemmas.{filter_both, listed}
use Rattle.index_filter.proofs.LeftLemmas.{one_chosen}

-- ---- the conjuncts that are left for the documents that are sure

if_all : (p : Conjunct → Bool) (b : Bool) (x : Conjunct) (xs ys : List Conjunct) → list_all p xs ≡ list_all p ys → list_all p (if b then xs else x ∷ xs) ≡ list_all p (if b then ys else x ∷ ys)
if_all p true x xs ys same = same
if_all p false x xs ys same = ap (λ b. p x && b) same

-- where each conjunct of a range index holds, it is one whether it is left out or not
pub sure_all : (p : Conjunct → Bool) (cs : List IndexChoice) (xs : List Conjunct) → ((at : ℕ) (x : Conjunct) → slice_get xs at ≡ Some x → choice_at cs at ≡ Range → is_indexed Range x ≡ true → p x ≡ true)
    → list_all p (unserved (sure_choices cs) xs) ≡ list_all p (unserved cs xs)
sure_all p [] xs each = refl
sure_all p (c ∷ cs) [] each = refl
sure_all p (Unindexed ∷ cs) (x ∷ xs) each = if_all p (is_served Unindexed x) x (unserved (sure_choices cs) xs) (unserved cs xs) (sure_all p cs xs (λ at. each (suc at)))
sure_all p (Sorted ∷ cs) (x ∷ xs) each = if_all p (is_served Sorted x) x (unserved (sure_choices cs) xs) (unserved cs xs) (sure_all p cs xs (λ at. each (suc at)))
sure_all p (Inverted ∷ cs) (x ∷ xs) each = if_all p (is_served Inverted x) x (unserved (sure_choices cs) xs) (unserved cs xs) (sure_all p cs xs (λ at. each (suc at)))
sure_all p (Range ∷ cs) (Many wide ∷ xs) each = ap (λ b. p (Many wide) && b) (sure_all p cs xs (λ at. each (suc at)))
sure_all p (Range ∷ cs) (One column test ∷ xs) each =
    sure_all p cs xs (λ at. each (suc at)) ∙ ap (λ b. b && list_all p (unserved cs xs)) (sym (each 0 (One column test) refl refl refl))

-- what each index leaves, the one of a conjunct leaves
pub left_at : (q : IndexChoice → Conjunct → Bool) (cs : List IndexChoice) (xs : List Conjunct) (at : ℕ) (x : Conjunct) → slice_get xs at ≡ Some x → is_indexed (choice_at cs at) x ≡ true → list_all (λ y. q y.choice y.conjunct) (indexed cs xs) ≡ true → q (choice_at cs at) x ≡ true
left_at q cs [] at x there has all = absurd cc
left_at q [] (y ∷ ys) at x there has all = absurd (false≢true has)
left_at q (c ∷ cs) (y ∷ ys) zero x there has all =
    let same : y ≡ x = cc in
    first (is_indexed c y) (ap (is_indexed c) same ∙ has) all ∙ refl
  where
    first : (b : Bool) → b ≡ true → list_all (λ z. q z.choice z.conjunct) (if b then one_chosen c y ∷ indexed cs ys else indexed cs ys) ≡ true → q c x ≡ true
    first false is all = absurd (false≢true is)
    first true is all = (let same : y ≡ x = cc in ap (q c) (sym same) ∙ both (q c y) (list_all (λ z. q z.choice z.conjunct) (indexed cs ys)) all)
      where
        both : (a b : Bool) → a && b ≡ true → a ≡ true
        both true b e = refl
        both false b e = e
left_at q (c ∷ cs) (y ∷ ys) (suc at) x there has all = left_at q cs ys at x there has (rest (is_indexed c y) all)
  where
    rest : (b : Bool) → list_all (λ z. q z.choice z.conjunct) (if b then one_chosen c y ∷ indexed cs ys else indexed cs ys) ≡ true → list_all (λ z. q z.choice z.conjunct) (indexed cs ys) ≡ true
    rest false all = all
    rest true all = both (q c y) (list_all (λ z. q z.choice z.conjunct) (indexed cs ys)) all
      where
        both : (a b : Bool) → a && b ≡ true → b ≡ true
        both true b e = e
        both false b e = absurd (false≢true e)

-- ---- both parts of documents

module _ (docs unsure sure check : List ℕ) (n : ℕ) (up : AreThose (has_doc docs) docs) (below : All (λ k. k < n) docs)
    (sures : AreThose (λ doc. has_doc docs doc && not (has_doc unsure doc)) sure) (checks : AreThose (λ doc. has_doc docs doc && has_doc unsure doc) check)
    (sure_below : All (λ k. k < n) sure) (check_below : All (λ k. k < n) check) where
  sure_is : filter (λ d. not (has_doc unsure d)) docs ≡ sure
  sure_is =
      ap (filter (λ d. not (has_doc unsure d))) (listed n docs (has_doc docs) up.ascend below (λ k. refl))
      ∙ filter_both 0 (has_doc docs) (λ d. not (has_doc unsure d)) (λ d. has_doc docs d && not (has_doc unsure d)) (range_with_len 0 n) (λ k lt. refl)
      ∙ sym (listed n sure (λ d. has_doc docs d && not (has_doc unsure d)) sures.ascend sure_below sures.those)

  check_is : filter (has_doc unsure) docs ≡ check
  check_is =
      ap (filter (has_doc unsure)) (listed n docs (has_doc docs) up.ascend below (λ k. refl))
      ∙ filter_both 0 (has_doc docs) (has_doc unsure) (λ d. has_doc docs d && has_doc unsure d) (range_with_len 0 n) (λ k lt. refl)
      ∙ sym (listed n check (λ d. has_doc docs d && has_doc unsure d) checks.ascend check_below checks.those)

  pub parts_count : length check + length sure ≡ length docs
  parts_count = (λ i. length (sym check_is i) + length (sym sure_is i)) ∙ length-filter_both (has_doc unsure) (λ d. not (has_doc unsure d)) (λ d. refl) docs

  -- those of both parts that satisfy a test are those of all
  pub parts_permuted : {X : Type 0} (f : ℕ → X) (p q : X → Bool) → ((d : ℕ) → has_doc sure d ≡ true → q (f d) ≡ p (f d)) → IsPermutation (filter p (map f docs)) (filter p (map f check) ++ filter q (map f sure))
  parts_permuted f p q same = subst (IsPermutation (filter p (map f docs))) are (subst (λ l. IsPermutation l (map f (filter u kept ++ filter (λ d. not (u d)) kept))) (sym (of_map f p docs)) (IsPermutation-map f kept (filter u kept ++ filter (λ d. not (u d)) kept) (IsPermutation-filter_both u (λ d. not (u d)) (λ d. refl) kept)))
    where
      u : ℕ → Bool
      u d = has_doc unsure d

      kept : List ℕ
      kept = filter (λ d. p (f d)) docs

      of_map : {X : Type 0} (f : ℕ → X) (p : X → Bool) (xs : List ℕ) → filter p (map f xs) ≡ map f (filter (λ d. p (f d)) xs)
      of_map f p [] = refl
      of_map f p (x ∷ xs) = ap (λ l. cond (p (f x)) (f x ∷ l) l) (of_map f p xs) ∙ out (p (f x))
        where
          out : (b : Bool) → cond b (f x ∷ map f (filter (λ d. p (f d)) xs)) (map f (filter (λ d. p (f d)) xs)) ≡ map f (cond b (x ∷ filter (λ d. p (f d)) xs) (filter (λ d. p (f d)) xs))
          out true = refl
          out false = refl

      swapped : (a b : ℕ → Bool) (xs : List ℕ) → filter a (filter b xs) ≡ filter b (filter a xs)
      swapped a b xs = filter_both 0 b a (λ d. b d && a d) xs (λ k lt. refl) ∙ sym (filter_both 0 a b (λ d. b d && a d) xs (λ k lt. turn (b (get_or xs k 0)) (a (get_or xs k 0))))
        where
          turn : (x y : Bool) → (x && y) ≡ (y && x)
          turn true true = refl
          turn true false = refl
          turn false true = refl
          turn false false = refl

      alike : (xs : List ℕ) → ((d : ℕ) → has_doc xs d ≡ true → q (f d) ≡ p (f d)) → filter (λ d. q (f d)) xs ≡ filter (λ d. p (f d)) xs
      alike [] each = refl
      alike (x ∷ xs) each =
          ap (λ b. cond b (x ∷ filter (λ d. q (f d)) xs) (filter (λ d. q (f d)) xs)) (each x (own x xs))
          ∙ ap (λ l. cond (p (f x)) (x ∷ l) l) (alike xs (λ d has. each d (later (nat_eq d x) (has_doc xs d) has)))
        where
          own : (x : ℕ) (xs : List ℕ) → has_doc (x ∷ xs) x ≡ true
          own x xs = ap (λ b. b || has_doc xs x) (eq-eqb x x refl)

          later : (a b : Bool) → b ≡ true → a || b ≡ true
          later true b e = refl
          later false b e = e

      are : map f (filter u kept ++ filter (λ d. not (u d)) kept) ≡ filter p (map f check) ++ filter q (map f sure)
      are =
          map-append f (filter u kept) (filter (λ d. not (u d)) kept)
          ∙ (λ i. map f (swapped u (λ d. p (f d)) docs i) ++ map f (swapped (λ d. not (u d)) (λ d. p (f d)) docs i))
          ∙ (λ i. map f (filter (λ d. p (f d)) (check_is i)) ++ map f (filter (λ d. p (f d)) (sure_is i)))
          ∙ (λ i. sym (of_map f p check) i ++ (ap (map f) (sym (alike sure same)) ∙ sym (of_map f q sure)) i)
