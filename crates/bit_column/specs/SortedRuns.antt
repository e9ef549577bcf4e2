-- The sorted column: the first place of each id, and the place after its last, as a section has
-- them.
use Rattle.std.specs.Prelude.{ℕ, zero, suc, ◌+◌, ◌-◌, ◌*◌, nat_lt, List, [], ◌∷◌, ◌++◌, length}
use Rattle.std.specs.List.{filter, range_with_len}
use Rattle.bit_column.specs.Column.{spelled, id_at}

-- how many keys are less: in ascending keys the first place of this one
abbrev pub first_place : List ℕ → ℕ → ℕ
first_place keys key = length (filter (λ other. nat_lt other key) keys)

-- both places of the keys below a number, key by key
abbrev pub runs : ℕ → List ℕ → List ℕ
runs zero keys = []
runs (suc key) keys = runs key keys ++ first_place keys key ∷ first_place keys (key + 1) ∷ []

-- the same in 32 bits each
abbrev pub sorted_runs : ℕ → List ℕ → List ℕ
sorted_runs count keys = spelled 32 (runs count keys)

-- the places that the bytes of runs say of a key
abbrev pub run_at : ℕ → List ℕ → List ℕ
run_at key bytes = range_with_len (id_at 32 (2 * key) bytes)
    (id_at 32 (2 * key + 1) bytes - id_at 32 (2 * key) bytes)
