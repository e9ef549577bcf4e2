-- The values of a column that satisfy the conjuncts on it.
use Rattle.std.specs.Prelude.{◌≡◌, ℕ, Bool, true, false, not, ◌||◌, ◌==◌, List, [], ◌∷◌, length, if◌then◌else◌, Option, Some, None, slice_get}
use Rattle.std.specs.List.{filter, flat_map, list_all, list_any}
use Rattle.values.specs.declared.value.Value.{Value}
use Rattle.values.specs.declared.test.Test.{Test}
use Rattle.values.specs.Tests.{holds}
use Rattle.table_schema.specs.declared.query.Conjunct.{Conjunct}
use Rattle.table_schema.specs.declared.query.Conjunct.TheVariants.{One, Many}
use Rattle.value_ids.specs.Dictionary.{Distinct}
use Rattle.value_ids.specs.Ids.{has_id}
use Rattle.segment_head.specs.Heads.{IsLoaded, Seen}

-- the conjunct names this column alone
abbrev pub is_on : ℕ → Conjunct → Bool
is_on column (One named condition) = named == column
is_on column (Many condition) = false

-- some conjunct names this column alone
abbrev pub is_filtered : List Conjunct → ℕ → Bool
is_filtered conjuncts column = list_any (is_on column) conjuncts

-- the value satisfies the conjunct, if that names this column alone
abbrev pub passes : ℕ → Value → Conjunct → Bool
passes column value (One named condition) = not (named == column) || holds value condition
passes column value (Many condition) = true

-- the condition of a conjunct that names this column alone
abbrev pub condition_on : ℕ → Conjunct → List Test
condition_on column (One named condition) = if named == column then condition ∷ [] else []
condition_on column (Many condition) = []

-- the conditions of the conjuncts that name this column alone
abbrev pub conditions_on : ℕ → List Conjunct → List Test
conditions_on column conjuncts = flat_map (condition_on column) conjuncts

-- the id is in each of these sets
abbrev pub is_in_all : List (List ℕ) → ℕ → Bool
is_in_all sets id = list_all (λ ids. has_id ids id) sets

-- how many of these values of the column satisfy each conjunct that names it alone
abbrev pub matched : List Conjunct → ℕ → List Value → ℕ
matched conjuncts column values = length (filter (λ value. list_all
    (passes column value) conjuncts) values)

-- the values of a dictionary; one that is not loaded has none
abbrev pub values_of : Option (Option Distinct) → List Value
values_of None = []
values_of (Some None) = []
values_of (Some (Some d)) = d.values

-- the distinct values of a column, which a head has where they were loaded
abbrev pub values_in : Seen → ℕ → List Value
values_in head column = values_of (slice_get head.dictionaries column)

-- how many distinct values the column has
abbrev pub count_in : Seen → ℕ → ℕ
count_in head column = length (values_in head column)

-- the dictionary of each column that a conjunct names alone was loaded
abbrev pub AreLoaded : List Conjunct → Seen → Type 0
AreLoaded conjuncts head = (column : ℕ) → is_filtered conjuncts column ≡ true → IsLoaded head column
