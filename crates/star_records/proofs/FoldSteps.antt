-- Rows in order, merged one by one.
use Rattle.std.proofs.Common.{◌≡◌, ◌≢◌, ℕ, zero, suc, ◌+◌, ◌-◌, ◌<◌, ◌≤◌, true, List, []}
use Rattle.std.proofs.Common.{◌∷◌, ◌++◌, map, length, take, drop, get_or, set, None, All, refl, sym, ap}
use Rattle.std.proofs.Common.{◌∙◌, arith, ℤ, pos, length-append}
use Rattle.std.proofs.lemmas.Cmp.{nat_list_cmp_total}
use Rattle.std.proofs.lemmas.List.{map-append, length-map, take-append-drop, get_or-map, get_or_at}
use Rattle.std.proofs.lemmas.List.Sorted.{IsPermutation-map, length_permutation, All-permutation}
use Rattle.std.proofs.Math.Seq.{take-suc}
use Rattle.std.specs.Ordering.{is_lt, is_gt}
use Rattle.std.specs.FinMap.{is_sorted}
use Rattle.std.specs.List.Sorted.{IsPermutation, IsSortedBy}
use Rattle.agg_laws.specs.declared.aggregate_kind.AggKind.{AggKind}
use Rattle.agg_laws.specs.declared.states.AggState.{AggState}
use Rattle.agg_laws.specs.Rows.{merged_rows, row_weight}
use Rattle.agg_laws.specs.laws.Rows as rows
use Rattle.agg_laws.specs.Merged.{total, add, weights}
use Rattle.agg_laws.specs.Tree.{dims_order, merged_docs}
use Rattle.state_columns.specs.Docs.{Doc, projected}
use Rattle.state_columns.specs.Region.{numbers_from, numbers}
use Rattle.state_columns.proofs.MergedLemmas.{Merged-permutation, Merged_push, total-Merged}
use Rattle.state_columns.proofs.MergedLemmas.{is_sorted-Merged}
use Rattle.state_columns.proofs.ListLemmas.{same_dims, as_true, merged_fewer}
use Rattle.state_columns.proofs.WeightLemmas.{weights-add}
use Rattle.state_columns.proofs.DocLemmas.{rows_join}
use Rattle.state_columns.proofs.MergeSteps.{none_above, put_at_end}
use Rattle.state_columns.proofs.PlaceMerge.{put_at}
use Rattle.star_table.proofs.StarSteps.{length_numbers}
use Rattle.star_rows.specs.Columns.{row_at, rows_of}
use Rattle.star_records.specs.Folding.{Ends}
use Rattle.star_rows.specs.Words.{ids_at, row_in, key_in, states_at}
use Rattle.star_records.specs.Words.{InOrder}
use Rattle.star_rows.proofs.RowLemmas.{projected_more}
use Rattle.star_records.proofs.WordSteps.{more_numbers}

-- some documents have a last one
pub parts : (docs : List Doc) → 0 < length docs
    → (front : List Doc) × ((e : Doc) × (docs ≡ front ++ (e ∷ [])))
parts [] lt = absurd (omega arith)
parts (e ∷ []) lt = ([], (e, refl))
parts (e ∷ f ∷ fs) lt = let more = parts (f ∷ fs) (omega arith)
    in (e ∷ more.0, (more.1.0, ap (λ l. e ∷ l) more.1.1))

set_end : (front : List Doc) (e f : Doc) → set (front ++ (e ∷ [])) (length front) f
    ≡ front ++ (f ∷ [])
set_end [] e f = refl
set_end (d ∷ ds) e f = ap (λ l. d ∷ l) (set_end ds e f)

-- a state is added to the last document, which has its key
pub added_last : (front : List Doc) (k : List ℕ) (s t : List AggState)
    → is_sorted dims_order (front ++ ((k, t) ∷ [])) ≡ true
    → front ++ ((k, merged_rows t s) ∷ []) ≡ add dims_order merged_rows k s (front ++ ((k, t) ∷ []))
added_last front k s t up =
    let d : Doc = (k, t) in
    let at : get_or (front ++ (d ∷ [])) (length front) d ≡ d =
    get_or_at front d [] d (length front) refl in
    let l = length-append front (d ∷ []) in
    sym (set_end front d (k, merged_rows t s))
    ∙ (λ i. set (front ++ (d ∷ [])) (length front) ((sym at i).0, merged_rows (sym at i).1 s))
    ∙ put_at dims_order nat_list_cmp_total merged_rows rows_join k s (front ++ (d ∷ []))
    (length front) d up (omega (arith, l)) (ap (λ (e : Doc). e.0) at)

-- all rows, in whatever order
pub rows_count : (n : ℕ) (words : List ℕ) → IsPermutation (numbers 0 n) (map row_in words)
    → length words ≡ n
rows_count n words perm =
    let a = length_permutation (numbers 0 n) (map row_in words) perm in
    let b = length_numbers 0 (n - 0) in
    let l = length-map words row_in in
    omega (arith, a, b, l)

pub row_below : (n : ℕ) (words : List ℕ) (i row : ℕ) → IsPermutation (numbers 0 n) (map row_in words)
    → i < length words → row ≡ row_in (get_or words i 0) → row < n
row_below n words i row perm lt is =
    let l = length-map words row_in in
    let below = All-permutation (λ k. k < 0 + (n - 0)) (numbers 0 n) (map row_in words) perm
    (each 0 (n - 0)) i 0 (omega (arith, l, lt)) in
    let at = is ∙ sym (get_or-map row_in words i 0 0 lt) in
    omega (arith, below, at)
  where
    each : (from n : ℕ) → All (λ k. k < from + n) (numbers_from from n)
    each from zero k d h = absurd (omega arith)
    each from (suc n) zero d h = omega arith
    each from (suc n) (suc k) d h = let more = each (suc from) n k d (omega arith)
        in omega (arith, more)

module _ (ks : List AggKind) (dims : List (List ℕ)) (metrics : List (List ℤ)) where
  -- a row as a document
  abbrev pub row_doc : ℕ → Doc
  row_doc i = (ids_at dims i, states_at ks metrics i)

  abbrev pub docs_of : List ℕ → List Doc
  docs_of is = map row_doc is

  pub made : (n : ℕ) → projected ks (rows_of n dims metrics) ≡ docs_of (numbers_from 0 n)
  made zero = refl
  made (suc n) =
      let z : n ≡ 0 + n = omega arith in
      projected_more ks (rows_of n dims metrics) (row_at 0 n dims, row_at (pos 0) n metrics)
      ∙ (λ i. made n i ++ (row_doc (z i) ∷ []))
      ∙ sym (map-append row_doc (numbers_from 0 n) ((0 + n) ∷ []))
      ∙ ap docs_of (sym (more_numbers 0 n))

  -- in whatever order, the rows merge to the same
  pub same_merged : (n : ℕ) (order : List ℕ) → IsPermutation (numbers 0 n) order
      → merged_docs merged_rows (docs_of order)
      ≡ merged_docs merged_rows (projected ks (rows_of n dims metrics))
  same_merged n order perm =
      let m : n - 0 ≡ n = omega arith in
      Merged-permutation dims_order nat_list_cmp_total same_dims merged_rows rows_join
      (docs_of (numbers 0 n)) (docs_of order) (IsPermutation-map row_doc (numbers 0 n) order perm)
      ∙ ap (merged_docs merged_rows) (ap (λ k. docs_of (numbers_from 0 k)) m ∙ sym (made n))

  -- there are not more documents than rows
  pub fewer : (n : ℕ)
      → length (merged_docs merged_rows (projected ks (rows_of n dims metrics))) ≤ n
  fewer n =
      let a = merged_fewer merged_rows (projected ks (rows_of n dims metrics)) in
      let b = ap length (made n) in
      let c = length-map (numbers_from 0 n) row_doc in
      let d = length_numbers 0 n in
      omega (arith, a, b, c, d)

  pub ascending : (is : List ℕ)
      → is_sorted dims_order (merged_docs merged_rows (docs_of is)) ≡ true
  ascending is = as_true _
      (is_sorted-Merged dims_order nat_list_cmp_total same_dims merged_rows rows_join (docs_of is))

  -- documents ascend as their rows do
  sorted : (order : List ℕ)
      → IsSortedBy (λ a b. is_lt (dims_order (ids_at dims a) (ids_at dims b))) order
      → IsSortedBy (λ (a b : Doc). is_lt (dims_order a.0 b.0)) (docs_of order)
  sorted order up k d le lt =
      let l = length-map order row_doc in
      let in' : k + 1 < length order = omega (arith, lt, l) in
      let a : get_or (docs_of order) (k + 1) d ≡ row_doc (get_or order (k + 1) 0) =
      get_or-map row_doc order (k + 1) 0 d in' in
      let b : get_or (docs_of order) k d ≡ row_doc (get_or order k 0) =
      get_or-map row_doc order k 0 d (omega (arith, in')) in
      (λ i. is_lt (dims_order (a i).0 (b i).0)) ∙ up k 0 le in'

  -- the rows in order, at one of them
  module _ (order : List ℕ) (i : ℕ) (lt : i < length order) where
    whole : docs_of order ≡ docs_of (take i order)
        ++ (row_doc (get_or order i 0) ∷ docs_of (drop (suc i) order))
    whole = ap docs_of (sym (take-append-drop i order)
        ∙ ap (λ t. take i order ++ t) (split order i lt))
        ∙ map-append row_doc (take i order) (get_or order i 0 ∷ drop (suc i) order)
      where
        split : (is : List ℕ) (i : ℕ) → i < length is → drop i is ≡ get_or is i 0 ∷ drop (suc i) is
        split [] i h = absurd (omega arith)
        split (e ∷ es) zero h = refl
        split (e ∷ es) (suc i) h = split es i (omega arith)

    low : IsSortedBy (λ a b. is_lt (dims_order (ids_at dims a) (ids_at dims b))) order
        → total merged_rows (λ x. is_gt (dims_order x (ids_at dims (get_or order i 0))))
        (merged_docs merged_rows (docs_of (take i order))) ≡ None
    low up =
        total-Merged dims_order nat_list_cmp_total same_dims merged_rows rows_join
        (λ x. is_gt (dims_order x (ids_at dims (get_or order i 0)))) (docs_of (take i order))
        ∙ none_above dims_order nat_list_cmp_total same_dims merged_rows rows_join
        (docs_of (take i order)) (docs_of (drop (suc i) order)) (row_doc (get_or order i 0))
        (docs_of order) (sorted order up) whole

    next : add dims_order merged_rows (ids_at dims (get_or order i 0))
        (states_at ks metrics (get_or order i 0))
        (merged_docs merged_rows (docs_of (take i order)))
        ≡ merged_docs merged_rows (docs_of (take (i + 1) order))
    next =
        let n : suc i ≡ i + 1 = omega arith in
        Merged_push dims_order nat_list_cmp_total same_dims merged_rows rows_join
        (docs_of (take i order)) (ids_at dims (get_or order i 0))
        (states_at ks metrics (get_or order i 0))
        ∙ ap (merged_docs merged_rows)
        (sym (map-append row_doc (take i order) (get_or order i 0 ∷ []))
        ∙ ap docs_of (sym (take-suc order i 0 lt) ∙ ap (λ m. take m order) n))

  -- one more row of words in order
  module _ (n : ℕ) (words : List ℕ) (order : InOrder n dims words) (i row : ℕ)
      (lt : i < length words) (row_is : row ≡ row_in (get_or words i 0)) (old : List Doc)
      (old_is : old ≡ merged_docs merged_rows (docs_of (take i (map row_in words)))) where
    there : i < length (map row_in words)
    there = let l = length-map words row_in in omega (arith, l, lt)

    at : row ≡ get_or (map row_in words) i 0
    at = row_is ∙ sym (get_or-map row_in words i 0 0 lt)

    up : is_sorted dims_order old ≡ true
    up = ap (is_sorted dims_order) old_is ∙ ascending (take i (map row_in words))

    -- what is known after it, where it was added
    module _ (new : List Doc)
        (is : new ≡ add dims_order merged_rows (ids_at dims row) (states_at ks metrics row) old) where
      pub docs_more : new ≡ merged_docs merged_rows (docs_of (take (i + 1) (map row_in words)))
      docs_more = is
          ∙ (λ j. add dims_order merged_rows (ids_at dims (at j)) (states_at ks metrics (at j))
          (old_is j))
          ∙ next (map row_in words) i there

      pub light_more : row_weight (states_at ks metrics row) ≤ 1 → weights row_weight old ≤ i
          → weights row_weight new ≤ i + 1
      light_more one at_most =
          let a = ap (weights row_weight) is in
          let b = weights-add row_weight dims_order merged_rows rows.row_weight_both
          (ids_at dims row) (states_at ks metrics row) old in
          omega (arith, a, b, one, at_most)

    before : ℕ
    before = get_or words (i - 1) 0

    -- it has the ids of the one before
    pub merged_more : 0 < i → key_in (get_or words (i - 1) 0) ≡ key_in (get_or words i 0)
        → (ends : Ends old (ids_at dims (row_in (get_or words (i - 1) 0))))
        → (ends.front ++ ((
          ids_at dims (row_in (get_or words (i - 1) 0)),
          merged_rows ends.states (states_at ks metrics row),
        ) ∷ [])
        ≡ add dims_order merged_rows (ids_at dims row) (states_at ks metrics row) old)
        × (ids_at dims (row_in (get_or words (i - 1) 0)) ≡ ids_at dims row)
    merged_more some same ends =
        let ids : ids_at dims (row_in (get_or words (i - 1) 0)) ≡ ids_at dims row =
        order.alike i some lt same ∙ ap (ids_at dims) (sym row_is) in (
          added_last ends.front (ids_at dims (row_in (get_or words (i - 1) 0)))
              (states_at ks metrics row) ends.states
              (ap (is_sorted dims_order) (sym ends.is) ∙ up)
              ∙ (λ j. add dims_order merged_rows (ids j) (states_at ks metrics row) (sym ends.is j)),
          ids,
        )

    -- it has not
    pub appended_more : (0 < i → key_in (get_or words (i - 1) 0) ≢ key_in (get_or words i 0))
        → (0 < i → Ends old (ids_at dims (row_in (get_or words (i - 1) 0))))
        → old ++ ((ids_at dims row, states_at ks metrics row) ∷ [])
        ≡ add dims_order merged_rows (ids_at dims row) (states_at ks metrics row) old
    appended_more other ends =
        put_at_end dims_order nat_list_cmp_total same_dims merged_rows rows_join
        (ids_at dims row) (states_at ks metrics row) old up
        ((λ j. total merged_rows (λ x. is_gt (dims_order x (ids_at dims (at j)))) (old_is j))
        ∙ low (map row_in words) i there order.ascending)
        (λ l some is tie. differ i refl l some is (same_dims l.0 (ids_at dims row) tie))
      where
        last_is : (front : List Doc) (e l : Doc) → old ≡ front ++ (e ∷ [])
            → l ≡ get_or old (length old - 1) l → l ≡ e
        last_is front e l whole is =
            let n = ap length whole ∙ length-append front (e ∷ []) in
            let m : length old - 1 ≡ length front = omega (arith, n) in
            is ∙ (λ j. get_or (whole j) (m j) l) ∙ get_or_at front e [] l (length front) refl

        differ : (k : ℕ) → i ≡ k → (l : Doc) → 0 < length old → l ≡ get_or old (length old - 1) l
            → l.0 ≡ ids_at dims row → ⊥
        differ zero e l some is tie =
            let none : length old ≡ 0 = ap length (old_is
            ∙ ap (λ m. merged_docs merged_rows (docs_of (take m (map row_in words)))) e) in
            omega (arith, none, some)
        differ (suc k) e l some is tie =
            let more : 0 < i = omega (arith, e) in
            let last = ends more in
            let own = last_is last.front (ids_at dims (row_in (get_or words (i - 1) 0)), last.states)
            l last.is is in
            other more (order.apart i more lt
            (ap (λ (e : Doc). e.0) (sym own) ∙ tie ∙ ap (ids_at dims) row_is))
