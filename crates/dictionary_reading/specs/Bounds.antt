-- The bounds of a test, and where they cut values.
use Rattle.std.specs.Prelude.{◌≡◌, ◌<◌, ◌+◌, ◌++◌, ℕ, List, [], ◌∷◌, length, get_or}
use Rattle.values.specs.declared.value.Value.{Value}
use Rattle.values.specs.declared.test.Test.{Test}
use Rattle.values.specs.declared.test.Test.TheOpen.{Test-F}
use Rattle.values.specs.declared.test.Test.TheFolds.{fold-Test}
use Rattle.value_ids.specs.Ids.{Cuts}
use Rattle.value_ids.specs.declared.cuts.Cut.{Cut}

-- lists, one after the other
abbrev pub joined : List (List Value) → List Value
joined [] = []
joined (values ∷ others) = values ++ joined others

-- one test, with the bounds of each inner test in its place
abbrev pub bounds_step : Test-F (List Value) → List Value
bounds_step (Test-F.Compare op bound) = bound ∷ []
bounds_step (Test-F.OneOf members negated) = members
bounds_step (Test-F.Between low high negated) = low ∷ high ∷ []
bounds_step (Test-F.All inner) = joined inner
bounds_step (Test-F.Any inner) = joined inner

-- the values that a test compares with, in its order
abbrev pub bounds_of : Test → List Value
bounds_of = fold-Test (List Value) bounds_step

-- from a place on, these are the cuts of values by the bounds
abbrev pub AreCutsFrom : ℕ → List Value → List Cut → List Value → Type 0
AreCutsFrom at bounds cuts values = (k : ℕ) (b : Value) (c : Cut) → k < length bounds
    → Cuts values (get_or bounds k b) (get_or cuts (at + k) c).from (get_or cuts (at + k) c).to

-- so many values, which the bounds cut so
pub record AreCut (count : ℕ) (bounds : List Value) (cuts : List Cut) (values : List Value)
    : Type 0 where
  pub many : length values ≡ count
  pub each : AreCutsFrom 0 bounds cuts values
