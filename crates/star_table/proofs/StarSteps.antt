-- The documents of a range with a dimension starred, one by one.
use Rattle.std.proofs.Common.{◌≡◌, ℕ, zero, suc, ◌+◌, ◌-◌, ◌<◌, ◌≤◌, true, List, [], ◌∷◌, ◌++◌, map}
use Rattle.std.proofs.Common.{length, take, drop, get_or, refl, sym, ap, subst, ◌∙◌, arith, None}
use Rattle.std.proofs.lemmas.List.{map-append, length-map, take-append-drop, length-take-le}
use Rattle.std.proofs.lemmas.List.Sorted.{IsPermutation-map, length_permutation}
use Rattle.std.proofs.lemmas.Map.Views.{All-map-IsPermutation}
use Rattle.std.proofs.lemmas.Cmp.{nat_list_cmp_total}
use Rattle.std.proofs.Math.Seq.{take-suc}
use Rattle.std.specs.Prelude.{All}
use Rattle.std.specs.Ordering.{is_lt, is_gt}
use Rattle.std.specs.FinMap.{is_sorted}
use Rattle.std.specs.List.Sorted.{IsPermutation, IsSortedBy}
use Rattle.agg_laws.specs.Rows.{merged_rows, row_weight}
use Rattle.agg_laws.specs.laws.Rows as rows
use Rattle.agg_laws.specs.Merged.{total, add, rekey, weights}
use Rattle.agg_laws.specs.Tree.{dims_order, set_star, merged_docs}
use Rattle.state_columns.specs.Docs.{Doc, doc_at}
use Rattle.state_columns.specs.Region.{range, numbers_from, numbers}
use Rattle.state_columns.proofs.MergedLemmas.{Merged-permutation, Merged_push, total-Merged}
use Rattle.state_columns.proofs.MergedLemmas.{is_sorted-Merged}
use Rattle.state_columns.proofs.ListLemmas.{same_dims, as_true, merged_fewer}
use Rattle.state_columns.proofs.WeightLemmas.{weights-append, weights-Merged, weights-permutation}
use Rattle.state_columns.proofs.DocLemmas.{rows_join}
use Rattle.state_columns.proofs.MergeSteps.{none_above}

-- a document with a dimension starred
abbrev pub starred_doc : ℕ → List Doc → ℕ → Doc
starred_doc level docs i = (set_star level (doc_at docs i).0, (doc_at docs i).1)

abbrev pub starred_at : ℕ → List Doc → List ℕ → List Doc
starred_at level docs is = map (starred_doc level docs) is

-- a range is its documents by number
range_docs : (docs : List Doc) (from n : ℕ) → from + n ≤ length docs → take n (drop from docs)
    ≡ map (doc_at docs) (numbers_from from n)
range_docs docs from zero h = refl
range_docs docs from (suc n) h =
    let first : drop from docs ≡ doc_at docs from
    ∷ drop (suc from) docs = split docs from (omega arith) in
    ap (take (suc n)) first
    ∙ ap (λ t. doc_at docs from ∷ t) (range_docs docs (suc from) n (omega arith))
  where
    split : (docs : List Doc) (from : ℕ) → from < length docs → drop from docs ≡ doc_at docs from
        ∷ drop (suc from) docs
    split [] from h = absurd (omega arith)
    split (e ∷ es) zero h = refl
    split (e ∷ es) (suc from) h = split es from (omega arith)

map_twice : (f : Doc → Doc) (g : ℕ → Doc) (is : List ℕ) → map f (map g is) ≡ map (λ i. f (g i)) is
map_twice f g [] = refl
map_twice f g (i ∷ is) = ap (λ t. f (g i) ∷ t) (map_twice f g is)

pub starred_range : (level start end : ℕ) (docs : List Doc) → start ≤ end → end ≤ length docs
    → rekey (set_star level) (range start end docs) ≡ starred_at level docs (numbers start end)
starred_range level start end docs le in' =
    ap (rekey (set_star level)) (range_docs docs start (end - start) (omega arith))
    ∙ map_twice (λ e. (set_star level e.0, e.1)) (doc_at docs) (numbers start end)

weights_rekey : (f : List ℕ → List ℕ) (es : List Doc) → weights row_weight (rekey f es)
    ≡ weights row_weight es
weights_rekey f [] = refl
weights_rekey f (e ∷ es) = ap (λ n. row_weight e.1 + n) (weights_rekey f es)

same_map : (is : List ℕ) → map (λ i. i) is ≡ is
same_map [] = refl
same_map (i ∷ is) = ap (λ t. i ∷ t) (same_map is)

numbers_below : (from n end : ℕ) → from + n ≤ end → (k d : ℕ)
    → k < length (map (λ i. i) (numbers_from from n))
    → get_or (map (λ i. i) (numbers_from from n)) k d < end
numbers_below from zero end h k d lt = absurd (omega arith)
numbers_below from (suc n) end h zero d lt = omega arith
numbers_below from (suc n) end h (suc k) d lt =
    numbers_below (suc from) n end (omega arith) k d (omega arith)

at_all : (P : ℕ → Type 0) (is : List ℕ) (i d : ℕ) → All P (map (λ i. i) is) → i < length is
    → P (get_or is i d)
at_all P is i d h lt =
    subst (λ (l : List ℕ). P (get_or l i d)) (same_map is)
    (h i d (subst (λ (l : List ℕ). i < length l) (sym (same_map is)) lt))

pub length_numbers : (from n : ℕ) → length (numbers_from from n) ≡ n
length_numbers from zero = refl
length_numbers from (suc n) = ap suc (length_numbers (suc from) n)

module _ (level start end : ℕ) (docs : List Doc) (le : start ≤ end) (in' : end ≤ length docs)
    (order : List ℕ) (perm : IsPermutation (numbers start end) order) where
  all : List Doc
  all = starred_at level docs order

  pub same_merged : merged_docs merged_rows (starred_at level docs order)
      ≡ merged_docs merged_rows (rekey (set_star level) (range start end docs))
  same_merged =
      Merged-permutation dims_order nat_list_cmp_total same_dims merged_rows rows_join
      (starred_at level docs (numbers start end)) (starred_at level docs order)
      (IsPermutation-map (starred_doc level docs) (numbers start end) order perm)
      ∙ ap (merged_docs merged_rows) (sym (starred_range level start end docs le in'))

  weight : weights row_weight (starred_at level docs order)
      ≡ weights row_weight (range start end docs)
  weight =
      weights-permutation row_weight (starred_at level docs (numbers start end))
      (starred_at level docs order)
      (IsPermutation-map (starred_doc level docs) (numbers start end) order perm)
      ∙ ap (weights row_weight) (sym (starred_range level start end docs le in'))
      ∙ weights_rekey (set_star level) (range start end docs)

  pub order_length : length order ≡ end - start
  order_length = let a = length_permutation (numbers start end) order perm
      in let b = length_numbers start (end - start) in omega (arith, a, b)

  pub below : (i d : ℕ) → i < length order → get_or order i d < end
  below i d lt = at_all (λ i. i < end) order i d
      (All-map-IsPermutation (λ i. i) (λ i. i < end) (numbers start end) order perm
      (numbers_below start (end - start) end (omega (arith, le)))) lt

  -- the order in parts, at one place
  module _ (i : ℕ) (lt : i < length order) where
    cut : order ≡ take i order ++ (get_or order i 0 ∷ drop (suc i) order)
    cut = sym (take-append-drop i order) ∙ ap (λ t. take i order ++ t) (split order i lt)
      where
        split : (is : List ℕ) (i : ℕ) → i < length is → drop i is ≡ get_or is i 0 ∷ drop (suc i) is
        split [] i h = absurd (omega arith)
        split (e ∷ es) zero h = refl
        split (e ∷ es) (suc i) h = split es i (omega arith)

    whole : starred_at level docs order ≡ starred_at level docs (take i order)
        ++ (starred_doc level docs (get_or order i 0) ∷ starred_at level docs (drop (suc i) order))
    whole = ap (starred_at level docs) cut
        ∙ map-append (starred_doc level docs) (take i order) (get_or order i 0 ∷ drop (suc i) order)

    pub weight_fits : (most : ℕ) → weights row_weight (range start end docs) ≤ most
        → weights row_weight (merged_docs merged_rows (starred_at level docs (take i order)))
        + row_weight (doc_at docs (get_or order i 0)).1 ≤ most
    weight_fits most at_most =
        let done = starred_at level docs (take i order) in
        let rest = starred_doc level docs (get_or order i 0)
        ∷ starred_at level docs (drop (suc i) order) in
        let a = weights-Merged row_weight dims_order merged_rows rows.row_weight_both done in
        let b = sym weight ∙ ap (weights row_weight) whole ∙ weights-append row_weight done rest in
        omega (arith, a, b, at_most)

    pub low : IsSortedBy (λ (a b : Doc). is_lt (dims_order a.0 b.0)) (starred_at level docs order)
        → total merged_rows (λ x. is_gt
        (dims_order x (set_star level (doc_at docs (get_or order i 0)).0)))
        (merged_docs merged_rows (starred_at level docs (take i order))) ≡ None
    low up =
        let done = starred_at level docs (take i order) in
        total-Merged dims_order nat_list_cmp_total same_dims merged_rows rows_join
        (λ x. is_gt (dims_order x (set_star level (doc_at docs (get_or order i 0)).0))) done
        ∙ none_above dims_order nat_list_cmp_total same_dims merged_rows rows_join done
        (starred_at level docs (drop (suc i) order)) (starred_doc level docs (get_or order i 0))
        (starred_at level docs order) up whole

    pub next : add dims_order merged_rows (set_star level (doc_at docs (get_or order i 0)).0)
        (doc_at docs (get_or order i 0)).1
        (merged_docs merged_rows (starred_at level docs (take i order)))
        ≡ merged_docs merged_rows (starred_at level docs (take (i + 1) order))
    next =
        let n : suc i ≡ i + 1 = omega arith in
        Merged_push dims_order nat_list_cmp_total same_dims merged_rows rows_join
        (starred_at level docs (take i order))
        (set_star level (doc_at docs (get_or order i 0)).0) (doc_at docs (get_or order i 0)).1
        ∙ ap (merged_docs merged_rows)
        (sym (map-append (starred_doc level docs) (take i order) (get_or order i 0 ∷ []))
        ∙ ap (starred_at level docs) (sym (take-suc order i 0 lt) ∙ ap (λ m. take m order) n))

  pub fewer : (i : ℕ) → i ≤ length order
      → length (merged_docs merged_rows (starred_at level docs (take i order))) ≤ i
  fewer i le = let a = merged_fewer merged_rows (starred_at level docs (take i order))
      in let b = length-map (take i order) (starred_doc level docs)
      in let c = length-take-le i order le in omega (arith, a, b, c)

  pub ascending : (i : ℕ)
      → is_sorted dims_order (merged_docs merged_rows (starred_at level docs (take i order))) ≡ true
  ascending i = as_true _
      (is_sorted-Merged dims_order nat_list_cmp_total same_dims merged_rows rows_join
      (starred_at level docs (take i order)))

-- documents ascend as their numbers are ordered
pub sorted_docs : (level : ℕ) (docs : List Doc) (order : List ℕ)
    → IsSortedBy (λ a b. is_lt
    (dims_order (set_star level (doc_at docs a).0) (set_star level (doc_at docs b).0))) order
    → IsSortedBy (λ (a b : Doc). is_lt (dims_order a.0 b.0)) (starred_at level docs order)
sorted_docs level docs order up k d le lt =
    let l = length-map order (starred_doc level docs) in
    let a : get_or (starred_at level docs order) (k + 1) d
    ≡ starred_doc level docs (get_or order (k + 1) 0) =
    mapped order (k + 1) d (omega (arith, lt, l)) in
    let b : get_or (starred_at level docs order) k d
    ≡ starred_doc level docs (get_or order k 0) = mapped order k d (omega (arith, lt, l)) in
    (λ i. is_lt (dims_order (a i).0 (b i).0)) ∙ up k 0 le (omega (arith, lt, l))
  where
    mapped : (is : List ℕ) (k : ℕ) (d : Doc) → k < length is
        → get_or (map (starred_doc level docs) is) k d ≡ starred_doc level docs (get_or is k 0)
    mapped [] k d h = absurd (omega arith)
    mapped (x ∷ xs) zero d h = refl
    mapped (x ∷ xs) (suc k) d h = mapped xs k d (omega arith)

-- documents after the first
pub drop_own : (xs ys : List Doc) → drop (length xs) (xs ++ ys) ≡ ys
drop_own [] ys = refl
drop_own (x ∷ xs) ys = drop_own xs ys

pub take_own : (xs ys : List Doc) → take (length xs) (xs ++ ys) ≡ xs
take_own [] ys = refl
take_own (x ∷ xs) ys = ap (λ t. x ∷ t) (take_own xs ys)
