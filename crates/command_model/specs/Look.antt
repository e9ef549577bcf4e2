-- What `verify` and `dump` say of any published files.
use Rattle.std.specs.Prelude.{◌≡◌, ◌⊎◌, ℕ, List, ◌++◌, codes, length, Some}
use Rattle.std.specs.Fmt.{decimal}
use Rattle.outside.specs.Files.{Files}
use Rattle.values.specs.declared.value.Value.{Value}
use Rattle.table_schema.specs.declared.table.Table.{Table}
use Rattle.csv_text.specs.Rows.{rows_text}
use Rattle.segment_file.specs.declared.part.Part.{Part}
use Rattle.table_store.specs.Images.{IsNoStoredImage, IsStoredImage, SpellsNoStored, SpellsStored}
use Rattle.table_store.specs.Segments.{HasSegment}
use Rattle.command_model.specs.Drop.{IsMissing}
use Rattle.command_model.specs.Stored.{HasTableFile, TableRefuses, part_text}
use Rattle.command_words.specs.declared.aim.Aim.{Aim}
use Rattle.command_words.specs.declared.aim.Aim.TheVariants.{Dump, Verify}
use Rattle.command_words.specs.declared.note.Note.{Note}
use Rattle.command_words.specs.declared.note.Note.TheVariants as note

-- ---- what is said

-- what is said of a segment whose file is the image of so many rows
abbrev pub verified_text : List ℕ → ℕ → List ℕ
verified_text name rows = name ++ codes " is a segment of " ++ decimal rows ++ codes " rows\n"

-- what is printed of a segment of the table with these rows: the names of the fields, and the rows
-- in their order, as `csv` writes
abbrev pub dumped_text : Table → List (List Value) → List ℕ
dumped_text table rows = rows_text table.schema.fields rows

-- what is said of a segment of these rows
abbrev pub looked_text : Aim → Table → List ℕ → List (List Value) → List ℕ
looked_text Verify table name rows = verified_text name (length rows)
looked_text Dump table name rows = dumped_text table rows

-- ---- what is looked for in the file of a segment

-- the file of the segment of this name is of these rows: their image, or for `dump` one that spells
-- them, whatever its indexes and trees are
abbrev pub IsFileOf : Aim → Table → Files → List ℕ → List (List Value) → Type 0
IsFileOf Verify table files name rows = IsStoredImage table files name rows
IsFileOf Dump table files name rows = SpellsStored table files name rows

-- it is of no rows, for this part of it
abbrev pub IsFileOfNone : Aim → Table → Files → List ℕ → Part → Type 0
IsFileOfNone Verify table files name part = IsNoStoredImage table files name part
IsFileOfNone Dump table files name part = SpellsNoStored table files name part

-- this is said of a segment of this name: its file is of some rows
abbrev pub IsSaid : Aim → Table → Files → List ℕ → List ℕ → Type 0
IsSaid aim table files name text = (rows : List (List Value)) × IsFileOf aim table files name rows
    × (text ≡ looked_text aim table name rows)

-- ---- over any published files

-- the file of the segment of this name is of rows of the table, of which this is said
pub record IsLookedAt (aim : Aim) (files : Files) (name text : List ℕ) : Type 0 where
  pub table : Table
  pub table_is : HasTableFile files table
  pub there : HasSegment (Some files) name
  pub rows : List (List Value)
  pub file_is : IsFileOf aim table files name rows
  pub text_is : text ≡ looked_text aim table name rows

-- the file of the segment of this name is of no rows, for this part of it
pub record IsUnlikeRows (aim : Aim) (files : Files) (name : List ℕ) (line : Note) : Type 0 where
  pub table : Table
  pub table_is : HasTableFile files table
  pub there : HasSegment (Some files) name
  pub wrong : Part
  pub none : IsFileOfNone aim table files name wrong
  pub line_is : line ≡ note.NotASegment name (part_text table.schema.fields wrong)

-- why `verify` and `dump` are refused
abbrev pub LookRefuses : Aim → List ℕ → Files → Note → Type 0
LookRefuses aim name files line = TableRefuses files line ⊎ IsMissing files name line
    ⊎ IsUnlikeRows aim files name line
