-- Lines of a text by the places of its separators.
use Rattle.std.specs.Prelude.{◌≡◌, ◌<◌, ◌≤◌, ◌+◌, ◌-◌, ◌*◌, ◌++◌, ◌⊎◌, ℕ, suc, zero, pos, List, [], ◌∷◌, Option, Some, None, Result, Ok, length, take, drop, get_or}
use Rattle.std.specs.List.{All}
use Rattle.csv.specs.Reading.{default_config, records_from}
use Rattle.csv.specs.declared.parser.State.TheVariants as st
use Rattle.values.specs.Columns.{Counts, Listed, rows_in_columns}
use Rattle.values.specs.declared.value.Value.{Value}
use Rattle.values.specs.declared.value.Value.TheVariants.{Whole}
use Rattle.table_schema.specs.ValidTable.{most_rows}
use Rattle.table_schema.specs.declared.field.Field.{Field}
use Rattle.csv_row.specs.Columns.{OfSorts}
use Rattle.csv_row.specs.InOrder.{after}
use Rattle.csv_row.specs.Layouts.{IsLayout}
use Rattle.csv_row.specs.Row.{cell_value}
use Rattle.csv_row.specs.declared.fault.CsvKind.{CsvKind}
use Rattle.csv_row.specs.declared.layout.Layout.{Layout}
use Rattle.csv_ingest.specs.Blocks.{rows_from}
use Rattle.csv_ingest.specs.Lines.{AreLines, AtLineEnd, StartsCell}
use Rattle.csv_ingest.specs.Places.{is_separator, places}
use Rattle.csv_ingest.specs.declared.lines.Taken.{Taken}
use Rattle.csv_ingest.specs.declared.parts.Part.{Part}

-- the places are those of the first separators of a text
pub record AreMarks (text marks : List ℕ) : Type 0 where
  pub more : List ℕ
  pub all : places is_separator 0 text ≡ marks ++ more

-- the byte at one of the places
abbrev pub mark_at : List ℕ → List ℕ → ℕ → ℕ
mark_at text marks i = get_or text (get_or marks i 0) 0

-- the bytes between one of the places and the next
abbrev pub cell_at : List ℕ → List ℕ → ℕ → List ℕ
cell_at text marks i = take (get_or marks (suc i) 0 - suc (get_or marks i 0))
    (drop (suc (get_or marks i 0)) text)

-- so many of these cells, from the one after this place on
abbrev pub cells_at : List ℕ → List ℕ → ℕ → ℕ → List (List ℕ)
cells_at text marks i zero = []
cells_at text marks i (suc n) = cell_at text marks i ∷ cells_at text marks (suc i) n

-- after a line feed at one of the places there is a line of so many cells, up to the line feed that
-- is so many places later: commas are between its cells, and its end is as the others' are
pub record IsLineAt (text marks : List ℕ) (width step at : ℕ) : Type 0 where
  pub within : at + step < length marks
  pub feed : mark_at text marks at ≡ 10
  pub starts : StartsCell (drop (suc (get_or marks at 0)) text)
  pub commas : (k : ℕ) → 0 < k → k < width → mark_at text marks (at + k) ≡ 44
  pub ends : ((step ≡ width) × (mark_at text marks (at + width) ≡ 10))
      ⊎ ((step ≡ width + 1) × (mark_at text marks (at + width) ≡ 13)
      × (mark_at text marks (at + step) ≡ 10)
      × (get_or marks (at + step) 0 ≡ get_or marks (at + width) 0 + 1))

-- the lines at the start of a text that begins with a line's end, one after the other
pub record IsPart (part : Part) : Type 0 where
  pub marks : AreMarks part.text.now part.places.now
  pub some : 0 < part.width
  pub first : get_or part.places.now 0 0 ≡ 0
  pub lines : (r : ℕ) → r < part.rows → IsLineAt part.text.now part.places.now part.width part.step
      (r * part.step)
  pub last : part.last ≡ part.rows * part.step

-- the lines have a cell for each name of a header, and there is a column for each field over it
pub record FitsPart (p : Part) (l : Layout) (held : List Listed) : Type 0 where
  pub part : IsPart p
  pub layout : IsLayout l
  pub width : p.width ≡ length l.names.now
  pub sorts : OfSorts l.fields.now held

-- the value of a field whose place is this, in the cells of a line
abbrev pub field_value : Field → Option ℕ → List (List ℕ) → Result Value CsvKind
field_value field None cells = Ok field.default
field_value field (Some column) cells = cell_value field (get_or cells (column - 1) [])

-- the column has the values of so many rows more at its end
pub record AddsValues (given : ℕ → Result Value CsvKind) (rows : ℕ) (old new : Listed)
    : Type 0 where
  pub values : List Value
  pub count : length values ≡ rows
  pub each : (r : ℕ) → r < rows → given r ≡ Ok (get_or values r (Whole (pos 0)))
  pub new_is : new ≡ record { are_texts = old.are_texts; values = old.values ++ values }

-- the cells of a line of a part
abbrev pub line_cells : Part → ℕ → List (List ℕ)
line_cells part r = cells_at part.text.now part.places.now (r * part.step) part.width

-- these columns have the rows of a part at their ends, where each field has this place
pub record AddsPart (part : Part) (fields : List Field) (header_places : List (Option ℕ))
    (old new : List Listed) : Type 0 where
  pub width : length new ≡ length old
  pub each : (i : ℕ) (d : Listed) (f : Field) → i < length old → AddsValues (λ r.
      field_value (get_or fields i f) (get_or header_places i None) (line_cells part r)) part.rows
      (get_or old i d) (get_or new i d)

-- these columns have the rows at their ends of so many lines at the start of a text, of which this
-- much is before the records that are left
pub record ReadsPart (fields : List Field) (header : List (List ℕ)) (text : List ℕ)
    (old new : List Listed) (rows taken : ℕ) : Type 0 where
  pub within : taken ≤ length text
  pub at_end : AtLineEnd (drop taken text)
  pub sorts : OfSorts fields new
  pub counts : (c : ℕ) → All (Counts c) old → All (Counts (c + rows)) new
  pub each : (c before n : ℕ) → All (Counts c) old → before + rows ≤ most_rows (length fields)
      → after (rows_in_columns c old) (rows_from before fields header
      (records_from default_config (n + rows) st.StartRecord text))
      ≡ after (rows_in_columns (c + rows) new) (rows_from (before + rows) fields header
      (records_from default_config n st.StartRecord (drop taken text)))

-- columns have the rows of the lines at the start of a text, which are at most so many
pub record AddsLines (fields : List Field) (header : List (List ℕ)) (text : List ℕ)
    (columns : List Listed) (most : ℕ) (taken : Taken) : Type 0 where
  pub lines : AreLines fields header 0 text (record { columns = columns; count = taken.rows })
      taken.bytes
  pub counts : All (Counts taken.rows) columns
  pub sorts : OfSorts fields columns
  pub at_most : taken.rows ≤ most
