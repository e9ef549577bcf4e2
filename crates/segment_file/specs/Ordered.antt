-- The order of a segment's rows: by the sorted column, where there is one. Rows with equal values
-- there stay in the order in which they came.
use Rattle.std.specs.Prelude.{ℕ, pos, List, [], ◌∷◌, get_or, Option, Some, None}
use Rattle.std.specs.Ordering.{match_ordering}
use Rattle.values.specs.declared.value.Value.{Value}
use Rattle.values.specs.declared.value.Value.TheVariants.{Whole}
use Rattle.values.specs.Order.{value_order}

-- the value of a row in a column
abbrev pub value_in : ℕ → List Value → Value
value_in column row = get_or row column (Whole (pos 0))

-- a row in its place among rows that came after it and are in order: before those that are not less
abbrev pub placed : ℕ → List Value → List (List Value) → List (List Value)
placed column row [] = row ∷ []
placed column row (first ∷ rows) =
    match_ordering (value_order (value_in column row) (value_in column first))
    (row ∷ first ∷ rows)
    (row ∷ first ∷ rows)
    (first ∷ placed column row rows)

-- rows in the order of a column, each before those of an equal value that came after it
abbrev pub sorted_by : ℕ → List (List Value) → List (List Value)
sorted_by column [] = []
sorted_by column (row ∷ rows) = placed column row (sorted_by column rows)

-- the rows in the order in which a segment has them
abbrev pub ordered : Option ℕ → List (List Value) → List (List Value)
ordered None rows = rows
ordered (Some column) rows = sorted_by column rows
