-- Where ascending ids are cut in two.
use Rattle.std.specs.Prelude.{◌≤◌, ◌<◌, ℕ, List, length}
use Rattle.std.specs.List.{slice_index}

-- the ids before a place are less than one, and those from the place on are not
pub record Cut (ids : List ℕ) (id place : ℕ) : Type 0 where
  pub within : place ≤ length ids
  pub before : (k : ℕ) → k < place → slice_index ids k < id
  pub following : (k : ℕ) → place ≤ k → k < length ids → id ≤ slice_index ids k
