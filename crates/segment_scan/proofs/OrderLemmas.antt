-- The ids of the sorted column ascend.
use Rattle.std.proofs.Common.{◌≡◌, ◌≢◌, ◌∙◌, ◌<◌, ◌≤◌, ◌∷◌, [], ℕ, zero, suc, pos, All, List, length, map, get_or, refl, sym, arith, inl, inr}
use Rattle.std.proofs.lemmas.Bool.{cases_lt}
use Rattle.std.proofs.lemmas.List.Elements.{All-cons, All-head, All-map, All-nil, All-tail, All-weaker}
use Rattle.std.proofs.lemmas.Map.Keys.{sorted_head, sorted_tail}
use Rattle.std.specs.List.{AllByRecursion}
use Rattle.std.specs.List.Sorted.{IsNonDecreasing}
use Rattle.std.specs.Ordering.{match_ordering, ordering_reverse}
use Rattle.std.specs.declared.cmp.Ordering.{Ordering}
use Rattle.std.specs.declared.cmp.Ordering.TheVariants as order
use Rattle.values.specs.declared.value.Value.{Value}
use Rattle.values.specs.declared.value.Value.TheVariants.{Whole}
use Rattle.values.specs.Order.{value_order}
use Rattle.values.specs.Order.Laws.{value_order-total}
use Rattle.value_ids.specs.Dictionary.{Ascends}
use Rattle.segment_file.specs.Ordered.{placed, sorted_by, value_in}

-- ---- lists that do not fall

up_nil : IsNonDecreasing []
up_nil i j d le lt = absurd (omega (arith, lt))

up_cons : (k : ℕ) (ks : List ℕ) → All (λ o. k ≤ o) ks → IsNonDecreasing ks → IsNonDecreasing (k ∷ ks)
up_cons k ks all up zero zero d le lt = omega arith
up_cons k ks all up zero (suc j) d le lt = all j d (omega (arith, lt))
up_cons k ks all up (suc i) zero d le lt = absurd (omega (arith, le))
up_cons k ks all up (suc i) (suc j) d le lt = up i j d (omega (arith, le)) (omega (arith, lt))

-- ---- values in their order

below_at : (v : Value) (vs : List Value) (i : ℕ) (z : Value) → AllByRecursion (λ w. value_order v w ≡ order.Less) vs → i < length vs → value_order v (get_or vs i z) ≡ order.Less
below_at v [] i z all lt = absurd (omega (arith, lt))
below_at v (w ∷ ws) zero z all lt = all.0
below_at v (w ∷ ws) (suc i) z all lt = below_at v ws i z all.1 (omega (arith, lt))

apart : (d : List Value) (i j : ℕ) (z : Value) → Ascends d → i < j → j < length d → value_order (get_or d i z) (get_or d j z) ≡ order.Less
apart [] i j z up lt within = absurd (omega (arith, within))
apart (w ∷ ws) zero zero z up lt within = absurd (omega (arith, lt))
apart (w ∷ ws) zero (suc j) z up lt within = below_at w ws j z (sorted_head value_order w ws up) (omega (arith, within))
apart (w ∷ ws) (suc i) zero z up lt within = absurd (omega (arith, lt))
apart (w ∷ ws) (suc i) (suc j) z up lt within = apart ws i j z (sorted_tail value_order w ws up) (omega (arith, lt)) (omega (arith, within))

-- ---- rows in their order

module _ (column : ℕ) (P : List Value → Type 0) where
  -- what holds of rows holds of each row where it is put among the others, and the other way round
  placed_all : (row : List Value) (rows : List (List Value)) → P row → All P rows → All P (placed column row rows)
  placed_all row [] own all = All-cons P row [] own (All-nil P)
  placed_all row (first ∷ rows) own all =
      let rest = placed_all row rows own (All-tail P first rows all) in
      elim (value_order (value_in column row) (value_in column first)) as (λ o. All P (match_ordering o (row ∷ first ∷ rows) (row ∷ first ∷ rows) (first ∷ placed column row rows))) [
        | order.Less ↦ All-cons P row (first ∷ rows) own all
        | order.Equal ↦ All-cons P row (first ∷ rows) own all
        | order.Greater ↦ All-cons P first (placed column row rows) (All-head P first rows all) rest
      ]

  both_by : (row first : List Value) (rows more : List (List Value)) (o : Ordering) → (All P more → P row × All P rows) → All P (match_ordering o (row ∷ first ∷ rows) (row ∷ first ∷ rows) (first ∷ more)) → P row × All P (first ∷ rows)
  both_by row first rows more order.Less back all = (All-head P row (first ∷ rows) all, All-tail P row (first ∷ rows) all)
  both_by row first rows more order.Equal back all = (All-head P row (first ∷ rows) all, All-tail P row (first ∷ rows) all)
  both_by row first rows more order.Greater back all =
      let rest = back (All-tail P first more all) in
      (rest.0, All-cons P first rows (All-head P first more all) rest.1)

  placed_back : (row : List Value) (rows : List (List Value)) → All P (placed column row rows) → P row × All P rows
  placed_back row [] all = (All-head P row [] all, All-nil P)
  placed_back row (first ∷ rows) all = both_by row first rows (placed column row rows) (value_order (value_in column row) (value_in column first)) (placed_back row rows) all

module _ (d : List Value) (up : Ascends d) (column : ℕ) (id : List Value → ℕ) where
  -- the id of a row is that of its value among ascending ones
  abbrev IsAt : List Value → Type 0
  IsAt row = (id row < length d) × (get_or d (id row) (Whole (pos 0)) ≡ value_in column row)

  -- no row has an id less than one before it
  abbrev Rise : List (List Value) → Type 0
  Rise [] = Unit {0}
  Rise (row ∷ rows) = All (λ r. id row ≤ id r) rows × Rise rows

  ids_order : (a b : List Value) → IsAt a → IsAt b → value_order (value_in column b) (value_in column a) ≢ order.Less → id a ≤ id b
  ids_order a b own its other = elim (cases_lt (id b) (id a)) [
    | inl lt ↦ absurd (other ((λ i. value_order (sym its.1 i) (sym own.1 i)) ∙ apart d (id b) (id a) (Whole (pos 0)) up lt own.0))
    | inr le ↦ le
  ]

  not_less : (o : Ordering) → o ≢ order.Greater → ordering_reverse o ≢ order.Less
  not_less order.Less other e = absurd cc
  not_less order.Equal other e = absurd cc
  not_less order.Greater other e = absurd (other refl)

  first_up : (row first : List Value) (rows : List (List Value)) → value_order (value_in column row) (value_in column first) ≢ order.Greater → IsAt row → All IsAt (first ∷ rows) → Rise (first ∷ rows) → Rise (row ∷ first ∷ rows)
  first_up row first rows other own all rise =
      let its : IsAt first = All-head IsAt first rows all in
      let le : id row ≤ id first = ids_order row first own its (λ e. not_less (value_order (value_in column row) (value_in column first)) other (sym (value_order-total.antisymm (value_in column first) (value_in column row)) ∙ e)) in
      (All-cons (λ r. id row ≤ id r) first rows le (All-weaker (λ r. id first ≤ id r) (λ r. id row ≤ id r) (λ r more. omega (arith, le, more)) rows rise.0), rise)

  place_up : (row first : List Value) (rows : List (List Value)) (o : Ordering) → value_order (value_in column row) (value_in column first) ≡ o → IsAt row → All IsAt (first ∷ rows) → Rise (first ∷ rows) → Rise (placed column row rows)
      → Rise (match_ordering o (row ∷ first ∷ rows) (row ∷ first ∷ rows) (first ∷ placed column row rows))
  place_up row first rows order.Less is own all rise more = first_up row first rows (λ e. absurd (let same : order.Less ≡ order.Greater = sym is ∙ e in cc)) own all rise
  place_up row first rows order.Equal is own all rise more = first_up row first rows (λ e. absurd (let same : order.Equal ≡ order.Greater = sym is ∙ e in cc)) own all rise
  place_up row first rows order.Greater is own all rise more =
      let its : IsAt first = All-head IsAt first rows all in
      let le : id first ≤ id row = ids_order first row its own (λ e. absurd (let same : order.Greater ≡ order.Less = sym is ∙ e in cc)) in
      (placed_all column (λ r. id first ≤ id r) row rows le rise.0, more)

  placed_up : (row : List Value) (rows : List (List Value)) → IsAt row → All IsAt rows → Rise rows → Rise (placed column row rows)
  placed_up row [] own all rise = (All-nil (λ r. id row ≤ id r), tt)
  placed_up row (first ∷ rows) own all rise =
      place_up row first rows (value_order (value_in column row) (value_in column first)) refl own all rise (placed_up row rows own (All-tail IsAt first rows all) rise.1)

  sorted_rise : (rows : List (List Value)) → All IsAt (sorted_by column rows) → Rise (sorted_by column rows)
  sorted_rise [] all = tt
  sorted_rise (row ∷ rows) all =
      let own = placed_back column IsAt row (sorted_by column rows) all in
      placed_up row (sorted_by column rows) own.0 own.1 (sorted_rise rows own.1)

  risen : (rows : List (List Value)) → Rise rows → IsNonDecreasing (map id rows)
  risen [] rise = up_nil
  risen (row ∷ rows) rise = up_cons (id row) (map id rows) (All-map (λ o. id row ≤ o) id rows rise.0) (risen rows rise.1)

  -- the ids of rows in the order of the column do not fall
  pub sorted_ids : (rows : List (List Value)) → All IsAt (sorted_by column rows) → IsNonDecreasing (map id (sorted_by column rows))
  sorted_ids rows all = risen (sorted_by column rows) (sorted_rise rows all)
