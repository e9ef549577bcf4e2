-- Valid tables, and their rows: what each call that takes them may rely on.
use Rattle.std.specs.Prelude.{◌≡◌, ℕ, ◌≤◌, ◌/◌, max, min, Bool, true, false, ◌&&◌, List, [], ◌∷◌, length}
use Rattle.std.specs.List.{All}
use Rattle.values.specs.declared.value.Value.{Value}
use Rattle.values.specs.Kinds.{fits}
use Rattle.table_schema.specs.declared.field.Field.{Field}
use Rattle.table_schema.specs.declared.table.Table.{Table}
use Rattle.table_schema.specs.Valid.{IsValidSchema}
use Rattle.table_schema.specs.ValidSettings.{IsValidSettings}

-- a valid schema with valid settings over its fields
pub record IsValidTable (table : Table) : Type 0 where
  pub schema : IsValidSchema table.schema
  pub settings : IsValidSettings table.schema.fields table.settings

-- one value a field, of the field's kind
abbrev pub is_row : List Field → List Value → Bool
is_row [] [] = true
is_row [] (v ∷ vs) = false
is_row (f ∷ fs) [] = false
is_row (f ∷ fs) (v ∷ vs) = fits f.kind v && is_row fs vs

-- a row of a table of these fields
abbrev pub IsRow : List Field → List Value → Type 0
IsRow fields row = is_row fields row ≡ true

-- the most rows of so many fields: 2^20 rows, and 2^24 values in all of them
abbrev pub most_rows : ℕ → ℕ
most_rows fields = min 1048576 (16777216 / max 1 fields)

-- rows of a table of these fields, no more than there may be
pub record AreRows (columns : List Field) (rows : List (List Value)) : Type 0 where
  pub each : All (IsRow columns) rows
  pub at_most : length rows ≤ most_rows (length columns)
