-- What makes states those of an aggregate: they go by the values alone, in any grouping and order,
-- and those that are stored have one spelling each.
use Rattle.std.specs.Prelude.{◌≡◌, ℕ, ◌+◌, ◌≤◌, ℤ, List, [], ◌++◌, length, IsPermutation}
use Rattle.agg_laws.specs.Numbers.{AreWhole, most_stored}

-- the states of lists are those of an aggregate: `fits v n` says that a state can come from at most
-- n signed 64-bit numbers
pub record IsAggregate (State : Type 0) (of : List ℤ → State) (empty : State)
    (merged : State → State → State) (fits : State → ℕ → Type 0) : Type 0 where
  -- no value has the empty state, and adds nothing
  pub of_none : of [] ≡ empty
  pub nothing_added : (v : State) → merged v empty ≡ v
  -- the values of two lists are those of both, in any grouping and order
  pub of_both : (xs ys : List ℤ) → of (xs ++ ys) ≡ merged (of xs) (of ys)
  pub any_grouping : (u v w : State) → merged (merged u v) w ≡ merged u (merged v w)
  pub any_order : (v w : State) → merged v w ≡ merged w v
  pub permuted : (xs ys : List ℤ) → IsPermutation xs ys → of ys ≡ of xs
  -- how many values a state can come from adds up
  pub fits_of : (xs : List ℤ) → AreWhole xs → fits (of xs) (length xs)
  pub fits_both : (v w : State) (n m : ℕ) → fits v n → fits w m → fits (merged v w) (n + m)
  pub fits_more : (v : State) (n m : ℕ) → fits v n → n ≤ m → fits v m

-- each stored state has one spelling, of so many bytes, and each spelling belongs to one such state
pub record IsStoredAs (State : Type 0) (fits : State → ℕ → Type 0) (stored : State → Type 0)
    (spelling : State → List ℕ) (width : ℕ) : Type 0 where
  pub stored_fits : (v : State) → stored v → fits v most_stored
  pub spelled : (v : State) → stored v → length (spelling v) ≡ width
  pub one_spelling : (v w : State) → stored v → stored w → spelling v ≡ spelling w → v ≡ w
