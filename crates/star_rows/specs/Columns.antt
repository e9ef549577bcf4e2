-- The rows of columns of ids and of values.
use Rattle.std.specs.Prelude.{ℕ, zero, suc, ℤ, pos, List, [], ◌∷◌, ◌++◌, length}
use Rattle.std.specs.Prelude.{slice_index_or}

-- how many rows columns of one length have
abbrev pub row_count : {X : Type 0} → List (List X) → ℕ
row_count [] = 0
row_count (c ∷ cs) = length c

-- what columns have in a row
abbrev pub row_at : {X : Type 0} → X → ℕ → List (List X) → List X
row_at d i [] = []
row_at d i (c ∷ cs) = slice_index_or c i d ∷ row_at d i cs

-- the first n rows: the ids and the values of each
abbrev pub rows_of : ℕ → List (List ℕ) → List (List ℤ) → List (List ℕ × List ℤ)
rows_of zero dims metrics = []
rows_of (suc n) dims metrics = rows_of n dims metrics
    ++ ((row_at 0 n dims, row_at (pos 0) n metrics) ∷ [])
