-- Marks for the rows of a table that are selected.
use Rattle.std.specs.Prelude.{◌≡◌, ◌<◌, ◌&&◌, ℕ, ℤ, Bool, false, pos, List, length, get_or}
use Rattle.values.specs.Columns.{ListedColumns, row_of}
use Rattle.values.specs.declared.value.Value.{Value}
use Rattle.values.specs.declared.value.Value.TheVariants.{Whole}
use Rattle.table_schema.specs.Conditions.{cell}

-- a mark for each row, whether it holds
pub record Marks (holds : List Value → Bool) (table : ListedColumns) (marks : List Bool)
    : Type 0 where
  pub count : length marks ≡ table.count
  pub each : (at : ℕ) → at < table.count → get_or marks at false ≡ holds (row_of table.columns at)

-- of the marks those stay where it holds too
abbrev pub Keeps : (ℕ → Bool) → List Bool → List Bool → Type 0
Keeps holds old new = (at : ℕ) → at < length old → get_or new at false
    ≡ (get_or old at false && holds at)

-- the numbers of a field, row by row; beyond the rows there is 0
pub record AreNumbersOf (table : ListedColumns) (field : ℕ) (numbers : List ℤ) : Type 0 where
  pub count : length numbers ≡ table.count
  pub each : (at : ℕ) → cell (row_of table.columns at) field ≡ Whole (get_or numbers at (pos 0))
