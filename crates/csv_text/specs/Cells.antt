-- What is written of each value of a column, and of it in a text (inside the crate alone).
use Rattle.std.specs.Prelude.{◌≡◌, ◌≤◌, ◌<◌, ◌+◌, ◌++◌, ◌&&◌, ◌==◌, ℕ, List, [], flat_map, get_or, if◌then◌else◌, length, map, nat_lt, slice_get, Some, take}
use Rattle.csv.specs.Writing.{default_writer, field_text, next_sep}
use Rattle.values.specs.declared.value.Value.{Value}
use Rattle.values.specs.Printed.{text_of}
use Rattle.csv_text.specs.Coded.{values_of}
use Rattle.csv_text.specs.Rows.{end_of}
use Rattle.csv_text.specs.declared.cells.Cells.{Cells}
use Rattle.csv_text.specs.declared.coded.CodedColumn.{CodedColumn}

-- what follows a field at a place among so many: the end of the record after the last
abbrev pub after_field : ℕ → ℕ → List ℕ → List ℕ
after_field at width field = if at + 1 == width
    then end_of (nat_lt width 2 && (length field == 0)) else []

-- what is written of a field, with what stands around it in a record
abbrev pub cell_text : ℕ → ℕ → List ℕ → List ℕ
cell_text at width bytes = next_sep default_writer at ++ (field_text default_writer bytes
    ++ after_field at width (field_text default_writer bytes))

-- the same of each of these values
abbrev pub cell_texts : ℕ → ℕ → List Value → List (List ℕ)
cell_texts at width values = map (λ v. cell_text at width (text_of v)) values

-- texts one after the other
abbrev pub joined : List (List ℕ) → List ℕ
joined texts = flat_map (λ text. text) texts

-- these cells are the texts one after the other and a chunk more, with the place where each begins
-- and that where the last one ends
pub record HasCells (texts : List (List ℕ)) (cells : Cells) : Type 0 where
  pub rest : List ℕ
  pub bytes_are : cells.bytes.items ≡ joined texts ++ rest
  pub chunk : 16 ≤ length rest
  pub count : length cells.starts.items ≡ length texts + 1
  pub starts_are : (k : ℕ) → k ≤ length texts
      → get_or cells.starts.items k 0 ≡ length (joined (take k texts))

-- the cells of the first so many of these columns
pub record AreCells (columns : List CodedColumn) (count : ℕ) (cells : List Cells) : Type 0 where
  pub many : length cells ≡ count
  pub each : (k : ℕ) (column : CodedColumn) (own : Cells) → k < count
      → slice_get columns k ≡ Some column → slice_get cells k ≡ Some own
      → HasCells (cell_texts k (length columns) (values_of column)) own

-- some bytes were put after the first so many of a text, which ends there now
pub record IsPut (old : List ℕ) (at : ℕ) (bytes new : List ℕ) (end : ℕ) : Type 0 where
  pub within : end ≤ length new
  pub text_is : take end new ≡ take at old ++ bytes
