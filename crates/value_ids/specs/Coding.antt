-- A column by the ids of its values.
use Rattle.std.specs.Prelude.{◌≡◌, ◌<◌, ◌++◌, ℕ, ℤ, pos, List, map, length, get_or}
use Rattle.std.specs.List.{All, Contains}
use Rattle.values.specs.declared.value.Value.{Value}
use Rattle.values.specs.declared.value.Value.TheVariants.{Whole}

-- the value of each of these ids
abbrev pub values_at : List Value → List ℕ → List Value
values_at values ids = map (λ id. get_or values id (Whole (pos 0))) ids

-- each of these is an id among so many
abbrev pub AreBelow : ℕ → List ℕ → Type 0
AreBelow count ids = All (λ id. id < count) ids

-- there is an id for each row of the column, and its value is the row's
pub record Codes (values : List Value) (ids : List ℕ) (column : List Value) : Type 0 where
  pub each : values_at values ids ≡ column
  pub below : AreBelow (length values) ids

-- each of these values is in the column
abbrev pub AreAmong : List Value → List Value → Type 0
AreAmong column values = All (Contains column) values

-- values of the column, some perhaps twice, and the place among them of each row's
pub record Sees (column seen : List Value) (ids : List ℕ) : Type 0 where
  pub codes : Codes seen ids column
  pub among : AreAmong column seen

-- ---- numbers

-- the number that each id stands for
abbrev pub numbers_at : List ℤ → List ℕ → List ℤ
numbers_at seen ids = map (λ id. get_or seen id (pos 0)) ids

-- what was seen is seen at its place, and nothing else came but that number
pub record Grows (number : ℤ) (old new : List ℤ) : Type 0 where
  pub more : List ℤ
  pub new_is : new ≡ old ++ more
  pub each : All (λ other. other ≡ number) more

-- what was seen are numbers of the list
abbrev pub AreNumbersOf : List ℤ → List ℤ → Type 0
AreNumbersOf numbers seen = All (λ number. Contains numbers number) seen

-- ---- ranks

-- each id by its rank
abbrev pub renumbered : List ℕ → List ℕ → List ℕ
renumbered ranks ids = map (λ id. get_or ranks id 0) ids
