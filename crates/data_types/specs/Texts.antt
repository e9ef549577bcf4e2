-- Texts by their places among those that are kept.
use Rattle.std.specs.Prelude.{◌≡◌, ◌<◌, ◌++◌, ℕ, List, [], map, length, get_or, slice_get, Some}
use Rattle.std.specs.List.{All, Contains}

-- the text at each id
abbrev pub texts_of : List (List ℕ) → List ℕ → List (List ℕ)
texts_of names ids = map (λ id. get_or names id []) ids

-- each of these is a place among so many
abbrev pub AreBelow : ℕ → List ℕ → Type 0
AreBelow count ids = All (λ id. id < count) ids

-- each place is that of a text, and each text is that of some row
pub record IsCoding (names : List (List ℕ)) (ids : List ℕ) : Type 0 where
  pub below : AreBelow (length names) ids
  pub used : All (λ name. Contains (texts_of names ids) name) names

-- a text is at a place; what was kept is where it was, and no other text came
pub record Placed (text : List ℕ) (id : ℕ) (old new : List (List ℕ)) : Type 0 where
  pub at : slice_get new id ≡ Some text
  pub more : List (List ℕ)
  pub new_is : new ≡ old ++ more
  pub each : All (λ other. other ≡ text) more
