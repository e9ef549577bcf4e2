-- What `drop` does over any published files.
use Rattle.std.specs.Prelude.{◌≡◌, ◌⊎◌, ℕ, List, ◌++◌, codes, Option, Some}
use Rattle.outside.specs.Files.{Files, without_file}
use Rattle.table_schema.specs.declared.table.Table.{Table}
use Rattle.segment_file.specs.Names.{file_of}
use Rattle.table_store.specs.Segments.{HasSegment, LacksSegment}
use Rattle.command_model.specs.Stored.{HasTableFile, TableRefuses}
use Rattle.command_words.specs.declared.note.Note.{Note}
use Rattle.command_words.specs.declared.note.Note.TheVariants as note

-- what is said of a segment that was dropped
abbrev pub dropped_text : List ℕ → List ℕ
dropped_text name = codes "dropped " ++ name ++ codes "\n"

-- there is a table, and no segment of this name
pub record IsMissing (files : Files) (name : List ℕ) (line : Note) : Type 0 where
  pub table : Table
  pub table_is : HasTableFile files table
  pub none : LacksSegment (Some files) name
  pub line_is : line ≡ note.NoSegment name

-- why `drop` is refused
abbrev pub DropRefuses : List ℕ → Files → Note → Type 0
DropRefuses name files line = TableRefuses files line ⊎ IsMissing files name line

-- the file of the segment of this name was taken away
pub record IsDropped (files : Files) (name text : List ℕ) (new : Option Files) : Type 0 where
  pub table : Table
  pub table_is : HasTableFile files table
  pub there : HasSegment (Some files) name
  pub text_is : text ≡ dropped_text name
  pub leaves : new ≡ without_file (file_of name) (Some files)
