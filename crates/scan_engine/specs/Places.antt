-- Rows of a table by their places, and rows of one key.
use Rattle.std.specs.Prelude.{◌≡◌, ◌<◌, ℕ, List, length, map}
use Rattle.std.specs.List.{All}
use Rattle.values.specs.declared.value.Value.{Value}
use Rattle.values.specs.Columns.{Listed, row_of}
use Rattle.group_table.specs.Groups.{key_of}

-- the rows in these places
abbrev pub rows_at : List Listed → List ℕ → List (List Value)
rows_at columns places = map (row_of columns) places

-- rows that all have this key, at least one row
pub record IsRun (groups : List ℕ) (key : List Value) (rows : List (List Value)) : Type 0 where
  pub width : length key ≡ length groups
  pub each : All (λ row. key_of groups row ≡ key) rows
  pub some : 0 < length rows
