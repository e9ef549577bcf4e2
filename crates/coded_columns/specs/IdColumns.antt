-- Columns by the ids of their values, an id for each row.
use Rattle.std.specs.Prelude.{◌≡◌, ◌≤◌, ℕ, List, Option, length}
use Rattle.std.specs.List.{All}
use Rattle.std.specs.Option.{ForSome}
use Rattle.value_ids.specs.Coding.{AreBelow}
use Rattle.coded_columns.specs.declared.coded.Coded.{Coded}

-- a segment has at most so many rows
abbrev pub most_rows : ℕ
most_rows = 1048576

-- an id for each row, and a value for each id
pub record HasIds (rows : ℕ) (column : Coded) : Type 0 where
  pub count : length column.ids.now ≡ rows
  pub below : AreBelow (length column.dictionary.now.values) column.ids.now

-- the same, if the column is looked at
abbrev pub IsCoded : ℕ → Option Coded → Type 0
IsCoded count column = ForSome column (HasIds count)

-- columns of so many rows, each with its ids
pub record AreCoded (count : ℕ) (columns : List (Option Coded)) : Type 0 where
  pub at_most : count ≤ most_rows
  pub each : All (IsCoded count) columns
