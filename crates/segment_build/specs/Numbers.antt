-- The numbers of columns.
use Rattle.std.specs.Prelude.{◌<◌, ℕ, ℤ, pos, false, List, [], map, replicate, get_or, Option, Some, None}
use Rattle.values.specs.Columns.{Listed, ListedColumns}
use Rattle.segment_file.specs.Trees.{number_of}

-- the numbers of a column, of which each is one; a text counts as 0
abbrev pub numbers_in : Listed → List ℤ
numbers_in column = map number_of column.values

-- a pair has no column, or one of so many
abbrev pub IsKnown : ℕ → Option ℕ → Type 0
IsKnown columns None = Unit {0}
IsKnown columns (Some column) = column < columns

-- the numbers of a pair's column, and 0 for each row where they are counted
abbrev pub numbers_for : ListedColumns → Option ℕ → List ℤ
numbers_for t None = replicate t.count (pos 0)
numbers_for t (Some column) = numbers_in (get_or t.columns column
    (record { are_texts = false; values = [] }))
