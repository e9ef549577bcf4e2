-- Columns of which some are kept.
use Rattle.std.specs.Prelude.{◌≡◌, ◌<◌, ◌≤◌, ◌+◌, ◌++◌, ℕ, Bool, true, List, length, get_or, Option, Result}
use Rattle.std.specs.List.{All}
use Rattle.values.specs.Columns.{Counts, Listed, ListedColumns}
use Rattle.values.specs.declared.value.Value.{Value}
use Rattle.table_schema.specs.declared.field.Field.{Field}
use Rattle.csv_row.specs.Columns.{OfSorts}
use Rattle.csv_row.specs.declared.fault.CsvKind.{CsvKind}
use Rattle.csv_ingest.specs.Lines.{AreLines}
use Rattle.csv_ingest.specs.Parts.{AddsPart, AddsValues, ReadsPart}
use Rattle.csv_ingest.specs.declared.parts.Part.{Part}

-- the column has so many values more at its end
pub record Grown (rows : ℕ) (old new : Listed) : Type 0 where
  pub values : List Value
  pub count : length values ≡ rows
  pub new_is : new ≡ record { are_texts = old.are_texts; values = old.values ++ values }

-- the values of so many rows are read, and are at the column's end if it is kept; else as many
-- others are
pub record KeepsValues (keep : Bool) (given : ℕ → Result Value CsvKind) (rows : ℕ)
    (old new : Listed) : Type 0 where
  pub read : Listed
  pub adds : AddsValues given rows old read
  pub kept : keep ≡ true → new ≡ read
  pub grown : Grown rows old new

-- as many columns of the same lengths, and those that are kept are these; all beyond the marks are
-- kept
pub record HaveKept (kept : List Bool) (read columns : List Listed) : Type 0 where
  pub width : length columns ≡ length read
  pub each : (i : ℕ) (d : Listed) → get_or kept i true ≡ true
      → get_or columns i d ≡ get_or read i d
  pub counts : (i : ℕ) (d : Listed)
      → length (get_or columns i d).values ≡ length (get_or read i d).values

-- as many rows, which are these in the columns that are kept, and have other values in the others
pub record AreKept (kept : List Bool) (read columns : ListedColumns) : Type 0 where
  pub count : columns.count ≡ read.count
  pub same : HaveKept kept read.columns columns.columns

-- the rows of a part are read, and are at the ends of these columns, save in those that are not
-- kept
pub record KeepsPart (kept : List Bool) (part : Part) (fields : List Field)
    (header_places : List (Option ℕ)) (old new : List Listed) : Type 0 where
  pub read : List Listed
  pub adds : AddsPart part fields header_places old read
  pub same : HaveKept kept read new
  pub grown : (i : ℕ) (d : Listed) → i < length old
      → Grown part.rows (get_or old i d) (get_or new i d)

-- the rows of so many lines at the start of a text are read, and columns have them at their ends,
-- save in those that are not kept
pub record ReadsKept (fields : List Field) (header : List (List ℕ)) (kept : List Bool)
    (text : List ℕ) (old new : List Listed) (rows taken : ℕ) : Type 0 where
  pub read : List Listed
  pub reads : ReadsPart fields header text old read rows taken
  pub same : HaveKept kept read new
  pub sorts : OfSorts fields new
  pub counts : (c : ℕ) → All (Counts c) old → All (Counts (c + rows)) new

-- the rows of lines are the first that the records of a text give, at most so many, in a column for
-- each field, save in those that are not kept; this much of the text is before the records left
pub record ReadsLines (fields : List Field) (header : List (List ℕ)) (kept : List Bool)
    (before room : ℕ) (text : List ℕ) (columns : ListedColumns) (taken : ℕ) : Type 0 where
  pub read : ListedColumns
  pub same : AreKept kept read columns
  pub lines : AreLines fields header before text read taken
  pub sorts : OfSorts fields columns.columns
  pub at_most : columns.count ≤ room
