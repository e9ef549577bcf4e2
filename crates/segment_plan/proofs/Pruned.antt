-- No row of a segment that is pruned satisfies the query.
use Rattle.std.proofs.Common.{◌≡◌, ◌∙◌, ◌<◌, ◌≤◌, ◌+◌, ◌==◌, ℕ, zero, suc, Bool, true, false, not, ◌&&◌, ◌||◌, List, [], ◌∷◌, ◌++◌, length, map, get_or, Option, Some, None, append_assoc, refl, sym, ap, subst, arith, inl, inr}
use Rattle.std.proofs.lemmas.Bool.{cases_lt, eqb-true, false≢true}
use Rattle.std.proofs.lemmas.Map.Keys.{Less-from_sorted}
use Rattle.std.specs.List.{AllByRecursion, list_any, range_with_len, slice_get}
use Rattle.std.specs.Ordering.{is_le, ordering_reverse}
use Rattle.std.specs.declared.cmp.Ordering.{Ordering}
use Rattle.std.specs.declared.cmp.Ordering.TheVariants as order
use Rattle.values.specs.declared.value.Value.{Value}
use Rattle.values.specs.Order.{value_eq, value_order}
use Rattle.values.specs.Order.Laws.{value_eq-equiv, value_order-total}
use Rattle.values.specs.Tests.{holds, is_at_most, is_member, may_hold}
use Rattle.values.proofs.Bounds.{may_hold-sound, same_value}
use Rattle.table_schema.specs.declared.query.Conjunct.{Conjunct}
use Rattle.table_schema.specs.declared.query.Conjunct.TheVariants.{One, Many}
use Rattle.table_schema.specs.declared.table.Table.{Table}
use Rattle.table_schema.specs.Conditions.{all_hold, cell, conjunct_holds}
use Rattle.value_ids.specs.Dictionary.{Ascends, distinct}
use Rattle.value_ids.proofs.DistinctLemmas.{distinct_ascends, distinct_members}
use Rattle.segment_file.specs.declared.bounds.Ends.{Ends}
use Rattle.segment_file.specs.Bounds.{bounds_of, ends_of}
use Rattle.segment_file.specs.Image.{dictionary_of, values_in}
use Rattle.segment_file.specs.Ordered.{value_in}
use Rattle.segment_plan.specs.Laws.{PrunedHasNone}
use Rattle.segment_plan.specs.Pruning.{excludes, is_excluded}

-- ---- ascending values lie between their ends

at_most_self : (v : Value) → is_at_most v v ≡ true
at_most_self v = go (value_order v v) (value_order-total.antisymm v v)
  where
    go : (o : Ordering) → o ≡ ordering_reverse o → is_le o ≡ true
    go order.Less e = absurd cc
    go order.Equal e = refl
    go order.Greater e = absurd cc

-- a value of a list, and where it is
record IsAt (values : List Value) (v : Value) : Type 0 where
  place : ℕ
  within : place < length values
  is : (d : Value) → get_or values place d ≡ v

member_at : (values : List Value) (v : Value) → is_member values v ≡ true → IsAt values v
member_at [] v e = absurd (false≢true e)
member_at (w ∷ ws) v e = here (member_at ws v) (value_eq v w) refl e
  where
    here : (is_member ws v ≡ true → IsAt ws v) → (b : Bool) → value_eq v w ≡ b → b || is_member ws v ≡ true → IsAt (w ∷ ws) v
    here later true same e = record { place = 0; within = omega arith; is = (λ d. sym (same_value v w same)) }
    here later false same e = let more : IsAt ws v = later e in let lt = more.within in record { place = suc more.place; within = omega (arith, lt); is = more.is }

ordered_at : (values : List Value) (i j : ℕ) (d : Value) → Ascends values → i ≤ j → j < length values → is_at_most (get_or values i d) (get_or values j d) ≡ true
ordered_at values i j d up le lt =
    elim (cases_lt i j) [
      | inl less ↦ ap is_le (Less-from_sorted value_order values i j d up less lt)
      | inr ge ↦ (let same : i ≡ j = omega (arith, le, ge) in subst (λ k. is_at_most (get_or values i d) (get_or values k d) ≡ true) same (at_most_self (get_or values i d)))
    ]

-- a value lies between the ends
record IsInside (ends : Ends) (v : Value) : Type 0 where
  low : is_at_most ends.least v ≡ true
  high : is_at_most v ends.greatest ≡ true

inside_ends : (values : List Value) (ends : Ends) (rest more : List Ends) (v : Value) → Ascends values → is_member values v ≡ true → ends_of values ++ more ≡ ends ∷ rest → IsInside ends v
inside_ends [] ends rest more v up there e = absurd (false≢true there)
inside_ends (w ∷ ws) ends rest more v up there e =
    let at : IsAt (w ∷ ws) v = member_at (w ∷ ws) v there in
    let lt : at.place < length (w ∷ ws) = at.within in
    let is : get_or (w ∷ ws) at.place w ≡ v = at.is w in
    let made : record { least = w; greatest = get_or (w ∷ ws) (length ws) w } ≡ ends = cc in
    subst (λ x. IsInside x v) made (record {
      low = subst (λ x. is_at_most w x ≡ true) is (ordered_at (w ∷ ws) 0 at.place w up (omega arith) lt);
      high = subst (λ x. is_at_most x (get_or (w ∷ ws) (length ws) w) ≡ true) is (ordered_at (w ∷ ws) at.place (length ws) w up (omega (arith, lt)) (omega arith));
    })

-- ---- the bounds of the columns of some rows

module _ (table : Table) (rows : List (List Value)) (row : List Value) (there : (column : ℕ) → is_member (values_in column rows) (value_in column row) ≡ true) where
  in_dictionary : (column : ℕ) → is_member (distinct (values_in column rows)) (value_in column row) ≡ true
  in_dictionary column = distinct_members (value_in column row) (values_in column rows) ∙ there column

  -- each column has its bounds
  some_ends : (values : List Value) (v : Value) (rest : List Ends) (k : ℕ) → is_member values v ≡ true → slice_get (ends_of values ++ rest) (suc k) ≡ slice_get rest k
  some_ends [] v rest k e = absurd (false≢true e)
  some_ends (w ∷ ws) v rest k e = refl

  first_ends : (values : List Value) (v : Value) (rest : List Ends) (ends : Ends) → Ascends values → is_member values v ≡ true → slice_get (ends_of values ++ rest) 0 ≡ Some ends → IsInside ends v
  first_ends [] v rest ends up e at = absurd (false≢true e)
  first_ends (w ∷ ws) v rest ends up e at =
      let made : record { least = w; greatest = get_or (w ∷ ws) (length ws) w } ≡ ends = cc in
      inside_ends (w ∷ ws) ends rest rest v up e (ap (λ x. x ∷ rest) made)

  inside : (from count k : ℕ) (ends : Ends) → slice_get (bounds_of (map (dictionary_of table rows) (range_with_len from count))) k ≡ Some ends → IsInside ends (value_in (from + k) row)
  inside from zero k ends at = absurd cc
  inside from (suc count) zero ends at =
      let same : from ≡ from + 0 = omega arith in
      subst (λ c. IsInside ends (value_in c row)) same
      (first_ends (distinct (values_in from rows)) (value_in from row) (bounds_of (map (dictionary_of table rows) (range_with_len (from + 1) count))) ends (distinct_ascends (values_in from rows)) (in_dictionary from) at)
  inside from (suc count) (suc k) ends at =
      let same : from + 1 + k ≡ from + suc k = omega arith in
      subst (λ c. IsInside ends (value_in c row)) same
      (inside (from + 1) count k ends (sym (some_ends (distinct (values_in from rows)) (value_in from row) (bounds_of (map (dictionary_of table rows) (range_with_len (from + 1) count))) k (in_dictionary from)) ∙ at))

  -- ---- a conjunct that the bounds exclude

  module _ (bounds : List Ends) (are : bounds ≡ bounds_of (map (dictionary_of table rows) (range_with_len 0 (length table.schema.fields)))) where
    excluded_fails : (conjunct : Conjunct) → is_excluded bounds conjunct ≡ true → conjunct_holds row conjunct ≡ false
    excluded_fails (Many condition) e = absurd (false≢true e)
    excluded_fails (One column condition) e = go (slice_get bounds column) refl e
      where
        not_so : (b : Bool) → not b ≡ true → b ≡ false
        not_so true e = absurd (false≢true e)
        not_so false e = refl

        go : (o : Option Ends) → slice_get bounds column ≡ o → excludes o condition ≡ true → holds (cell row column) condition ≡ false
        go None at e = absurd (false≢true e)
        go (Some ends) at e =
            let plain : 0 + column ≡ column = omega arith in
            let i : IsInside ends (value_in column row) = subst (λ c. IsInside ends (value_in c row)) plain (inside 0 (length table.schema.fields) column ends (ap (λ b. slice_get b column) (sym are) ∙ at)) in
            may_hold-sound ends.least ends.greatest condition (not_so (may_hold ends.least ends.greatest condition) e) (cell row column) i.low i.high

    some_fails : (conjuncts : List Conjunct) → list_any (is_excluded bounds) conjuncts ≡ true → all_hold row conjuncts ≡ false
    some_fails [] e = absurd (false≢true e)
    some_fails (conjunct ∷ conjuncts) e = go (some_fails conjuncts) (is_excluded bounds conjunct) refl e
      where
        and_none : (b : Bool) → b && false ≡ false
        and_none true = refl
        and_none false = refl

        go : (list_any (is_excluded bounds) conjuncts ≡ true → all_hold row conjuncts ≡ false) → (b : Bool) → is_excluded bounds conjunct ≡ b → b || list_any (is_excluded bounds) conjuncts ≡ true → conjunct_holds row conjunct && all_hold row conjuncts ≡ false
        go later true is e = ap (λ b. b && all_hold row conjuncts) (excluded_fails conjunct is)
        go later false is e = ap (λ b. conjunct_holds row conjunct && b) (later e) ∙ and_none (conjunct_holds row conjunct)

-- ---- each row

pub member_more : (column : ℕ) (before rows : List (List Value)) (row : List Value) → is_member (values_in column (before ++ row ∷ rows)) (value_in column row) ≡ true
member_more column [] rows row = ap (λ b. b || is_member (values_in column rows) (value_in column row)) (value_eq-equiv.refl (value_in column row))
member_more column (first ∷ before) rows row = ap (λ b. value_eq (value_in column row) (value_in column first) || b) (member_more column before rows row) ∙ or_true (value_eq (value_in column row) (value_in column first))
  where
    or_true : (b : Bool) → b || true ≡ true
    or_true true = refl
    or_true false = refl

each_fails : (table : Table) (bounds : List Ends) (conjuncts : List Conjunct) (all before rows : List (List Value)) → bounds ≡ bounds_of (map (dictionary_of table all) (range_with_len 0 (length table.schema.fields)))
    → all ≡ before ++ rows → list_any (is_excluded bounds) conjuncts ≡ true → AllByRecursion (λ row. all_hold row conjuncts ≡ false) rows
each_fails table bounds conjuncts all before [] are is e = tt
each_fails table bounds conjuncts all before (row ∷ rows) are is e = (
  some_fails table all row (λ column. ap (λ x. is_member (values_in column x) (value_in column row)) is ∙ member_more column before rows row) bounds are conjuncts e,
  each_fails table bounds conjuncts all (before ++ row ∷ []) rows are (is ∙ sym (append_assoc before (row ∷ []) rows)) e,
)

none_at_all : (P : List Value → Type 0) (rows : List (List Value)) → length rows ≡ 0 → AllByRecursion P rows
none_at_all P [] e = tt
none_at_all P (row ∷ rows) e = absurd (omega arith)

pub pruned_has_none : PrunedHasNone
pruned_has_none query table rows head tells pruned = go (head.rows == 0) refl pruned
  where
    go : (b : Bool) → (head.rows == 0) ≡ b → b || list_any (is_excluded head.bounds) query.conjuncts ≡ true → AllByRecursion (λ row. all_hold row query.conjuncts ≡ false) rows
    go true none e = none_at_all (λ row. all_hold row query.conjuncts ≡ false) rows (sym tells.rows_are ∙ eqb-true head.rows 0 none)
    go false some e = each_fails table head.bounds query.conjuncts rows [] rows tells.bounds_are refl e
