-- A bound is looked for by halving among values that ascend.
use Rattle.std.proofs.Common.{◌≡◌, ◌∙◌, ◌<◌, ◌≤◌, ◌+◌, ℕ, List, length, get_or, ap, subst, arith, inl, inr}
use Rattle.std.proofs.lemmas.Bool.{cases_lt}
use Rattle.std.proofs.lemmas.Map.Keys.{Less-from_sorted}
use Rattle.std.specs.Ordering.{ordering_reverse}
use Rattle.std.specs.declared.cmp.Ordering.TheVariants as order
use Rattle.values.specs.declared.value.Value.{Value}
use Rattle.values.specs.Order.{value_order}
use Rattle.values.specs.Order.Laws.{value_order-total}
use Rattle.value_ids.specs.Dictionary.{Ascends}
use Rattle.value_ids.specs.Ids.{Cuts}

-- the values of the ids below one are less than the bound, and those from another on are greater
pub record Halved (values : List Value) (bound : Value) (low high : ℕ) : Type 0 where
  pub less : (id : ℕ) (d : Value) → id < low → value_order (get_or values id d) bound ≡ order.Less
  pub greater : (id : ℕ) (d : Value) → high ≤ id → id < length values → value_order (get_or values id d) bound ≡ order.Greater

pub halved_start : (values : List Value) (bound : Value) (n : ℕ) → n ≡ length values → Halved values bound 0 n
halved_start values bound n e = record { less = λ id d lt. absurd (omega (arith, lt)); greater = λ id d le lt. absurd (omega (arith, e, le, lt)) }

pub halved_less : (values : List Value) (bound : Value) (low high middle : ℕ) → Ascends values → middle < length values → ((e : Value) → value_order (get_or values middle e) bound ≡ order.Less) → Halved values bound low high → Halved values bound (middle + 1) high
halved_less values bound low high middle up within is h = record {
  less = λ id d lt.
      elim (cases_lt id middle) [
        | inl below ↦ value_order-total.trans (get_or values id d) (get_or values middle d) bound (Less-from_sorted value_order values id middle d up below within) (is d)
        | inr le ↦ let same : middle ≡ id = omega (arith, lt, le) in subst (λ k. value_order (get_or values k d) bound ≡ order.Less) same (is d)
      ];
  greater = h.greater;
}

turned : (a b : Value) → value_order a b ≡ order.Greater → value_order b a ≡ order.Less
turned a b e = value_order-total.antisymm b a ∙ ap ordering_reverse e

turned_back : (a b : Value) → value_order b a ≡ order.Less → value_order a b ≡ order.Greater
turned_back a b e = value_order-total.antisymm a b ∙ ap ordering_reverse e

pub halved_greater : (values : List Value) (bound : Value) (low high middle : ℕ) → Ascends values → ((e : Value) → value_order (get_or values middle e) bound ≡ order.Greater) → Halved values bound low high → Halved values bound low middle
halved_greater values bound low high middle up is h = record {
  less = h.less;
  greater = λ id d le lt.
      elim (cases_lt middle id) [
        | inl above ↦ turned_back (get_or values id d) bound (value_order-total.trans bound (get_or values middle d) (get_or values id d) (turned (get_or values middle d) bound (is d)) (Less-from_sorted value_order values middle id d up above lt))
        | inr under ↦ let same : middle ≡ id = omega (arith, le, under) in subst (λ k. value_order (get_or values k d) bound ≡ order.Greater) same (is d)
      ];
}

pub halved_cut : (values : List Value) (bound : Value) (low high : ℕ) → high ≤ low → low ≤ length values → Halved values bound low high → Cuts values bound low low
halved_cut values bound low high met within h = record {
  order = omega arith;
  once = omega arith;
  within = within;
  less = h.less;
  equal = λ id d le lt. absurd (omega (arith, le, lt));
  greater = λ id d le lt. h.greater id d (omega (arith, met, le)) lt;
}
