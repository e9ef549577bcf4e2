-- Rows that are in their order stay as they are when they are put in it again.
use Rattle.std.proofs.Common.{◌≡◌, ◌≢◌, ◌∙◌, ℕ, List, [], ◌∷◌, Option, Some, None, refl, sym, ap, subst}
use Rattle.std.specs.Ordering.{match_ordering, ordering_reverse}
use Rattle.std.specs.declared.cmp.Ordering.{Ordering}
use Rattle.std.specs.declared.cmp.Ordering.TheVariants as order
use Rattle.values.specs.declared.value.Value.{Value}
use Rattle.values.specs.Order.{value_order}
use Rattle.values.specs.Order.Laws.{value_order-total}
use Rattle.segment_file.specs.Ordered.{ordered, placed, sorted_by, value_in}

-- a row is not after the first of these
abbrev IsBefore : ℕ → List Value → List (List Value) → Type 0
IsBefore column row [] = Unit {0}
IsBefore column row (first ∷ rows) = value_order (value_in column row) (value_in column first) ≢ order.Greater

-- no row is after the next one
abbrev AreInOrder : ℕ → List (List Value) → Type 0
AreInOrder column [] = Unit {0}
AreInOrder column (row ∷ rows) = IsBefore column row rows × AreInOrder column rows

placed_front : (column : ℕ) (row : List Value) (rows : List (List Value)) → IsBefore column row rows → placed column row rows ≡ row ∷ rows
placed_front column row [] before = refl
placed_front column row (first ∷ rows) before =
    elim (value_order (value_in column row) (value_in column first)) as (λ o. o ≢ order.Greater → match_ordering o (row ∷ first ∷ rows) (row ∷ first ∷ rows) (first ∷ placed column row rows) ≡ row ∷ first ∷ rows) [
      | order.Less ↦ λ n. refl
      | order.Equal ↦ λ n. refl
      | order.Greater ↦ λ n. absurd (n refl)
    ] before

sorted_same : (column : ℕ) (rows : List (List Value)) → AreInOrder column rows → sorted_by column rows ≡ rows
sorted_same column [] in_order = refl
sorted_same column (row ∷ rows) in_order = ap (placed column row) (sorted_same column rows in_order.1) ∙ placed_front column row rows in_order.0

turned : (o : Ordering) → o ≡ order.Greater → ordering_reverse o ≢ order.Greater
turned order.Less e = absurd cc
turned order.Equal e = absurd cc
turned order.Greater e = λ l. cc

-- a row that comes before one that is put in its place, and before the others
before_placed : (column : ℕ) (first row : List Value) (rows : List (List Value)) → value_order (value_in column row) (value_in column first) ≡ order.Greater → IsBefore column first rows → IsBefore column first (placed column row rows)
before_placed column first row [] after before =
    λ e. turned (value_order (value_in column row) (value_in column first)) after (sym (value_order-total.antisymm (value_in column first) (value_in column row)) ∙ e)
before_placed column first row (x ∷ xs) after before =
    let here : IsBefore column first (row ∷ x ∷ xs) = λ e. turned (value_order (value_in column row) (value_in column first)) after (sym (value_order-total.antisymm (value_in column first) (value_in column row)) ∙ e) in
    elim (value_order (value_in column row) (value_in column x)) as (λ o. IsBefore column first (match_ordering o (row ∷ x ∷ xs) (row ∷ x ∷ xs) (x ∷ placed column row xs))) [
      | order.Less ↦ here
      | order.Equal ↦ here
      | order.Greater ↦ before
    ]

placed_in_order : (column : ℕ) (row : List Value) (rows : List (List Value)) → AreInOrder column rows → AreInOrder column (placed column row rows)
placed_in_order column row [] in_order = (tt, tt)
placed_in_order column row (first ∷ rows) in_order =
    let own : Ordering = value_order (value_in column row) (value_in column first) in
    let rest : AreInOrder column (placed column row rows) = placed_in_order column row rows in_order.1 in
    elim own as (λ o. own ≡ o → AreInOrder column (match_ordering o (row ∷ first ∷ rows) (row ∷ first ∷ rows) (first ∷ placed column row rows))) [
      | order.Less ↦ λ is. ((λ e. let no : order.Less ≡ order.Greater = sym is ∙ e in cc), in_order)
      | order.Equal ↦ λ is. ((λ e. let no : order.Equal ≡ order.Greater = sym is ∙ e in cc), in_order)
      | order.Greater ↦ λ is. (before_placed column first row rows is in_order.0, rest)
    ] refl

sorted_in_order : (column : ℕ) (rows : List (List Value)) → AreInOrder column (sorted_by column rows)
sorted_in_order column [] = tt
sorted_in_order column (row ∷ rows) = placed_in_order column row (sorted_by column rows) (sorted_in_order column rows)

pub ordered_again : (sorted : Option ℕ) (rows : List (List Value)) → ordered sorted (ordered sorted rows) ≡ ordered sorted rows
ordered_again None rows = refl
ordered_again (Some column) rows = sorted_same column (sorted_by column rows) (sorted_in_order column rows)
