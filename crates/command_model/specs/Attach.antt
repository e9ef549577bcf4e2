-- What `attach` makes of what the check of its file finds, and what it does over any published
-- files.
use Rattle.std.specs.Prelude.{◌≡◌, ◌⊎◌, ◌<◌, ℕ, List, ◌++◌, length, codes, nat_le, is_some, Option, Some, None, Result, Ok, Err, if◌then◌else◌}
use Rattle.std.specs.Fmt.{decimal}
use Rattle.std.specs.FinMap as map
use Rattle.outside.specs.Files.{Files, with_file}
use Rattle.values.specs.declared.value.Value.{Value}
use Rattle.table_schema.specs.declared.table.Table.{Table}
use Rattle.segment_file.specs.Image.{image}
use Rattle.segment_file.specs.Names.{IsSegmentName, file_of}
use Rattle.segment_file.specs.declared.part.Part.{Part}
use Rattle.table_store.specs.Images.{Found, IsFound, IsImageOf, IsNoImage}
use Rattle.table_store.specs.Segments.{most_segments}
use Rattle.table_store.specs.State.{HasTable, NoTable, Segments, State, Texts}
use Rattle.command_model.specs.Build.{HasPlace, PlaceRefuses, table_of}
use Rattle.command_model.specs.Stored.{part_text}
use Rattle.command_words.specs.declared.note.Counted.TheVariants as counted
use Rattle.command_words.specs.declared.note.Note.{Note}
use Rattle.command_words.specs.declared.note.Note.TheVariants as note

-- what is said of a segment of so many rows that was attached
abbrev pub attached_text : List ℕ → ℕ → List ℕ
attached_text name rows = codes "attached " ++ name ++ codes ", " ++ decimal rows
    ++ codes " rows\n"

-- ---- over a state

-- the rows of which the file is the image, by what its check found
abbrev pub rows_found : Table → List ℕ → Found → Result (List (List Value)) Note
rows_found table name (Ok rows) = Ok rows
rows_found table name (Err part) = Err
    (note.NotASegment name (part_text table.schema.fields part))

-- the same, where there is such a file
abbrev pub file_rows : Table → List ℕ → List ℕ → Option (List ℕ) → Found
    → Result (List (List Value)) Note
file_rows table name file None found = Err (note.NoInput file)
file_rows table name file (Some bytes) found = rows_found table name found

-- the rows for a segment that is attached: none of these has its name, and there may be one more
abbrev pub attached_rows : Table → Segments → List ℕ → List ℕ → Files → Found
    → Result (List (List Value)) Note
attached_rows table segments name file inputs found =
    if is_some (map.get segments name) then Err (note.NameTaken name)
    else if nat_le most_segments (map.len segments) then Err
    (note.TooLarge counted.Segments most_segments)
    else file_rows table name file (map.get inputs file) found

-- these bytes of the file are checked under the name: there is a table with a place for the segment
pub record AsksCheck (texts : Texts) (segments : Segments) (name file : List ℕ) (inputs : Files)
    (table : Table) (bytes : List ℕ) : Type 0 where
  pub table_is : table_of texts ≡ Some table
  pub free : map.get segments name ≡ None
  pub room : map.len segments < most_segments
  pub bytes_are : map.get inputs file ≡ Some bytes

-- where the file is checked, this is found
abbrev pub FitsCheck : State → List ℕ → List ℕ → Files → Found → Type 0
FitsCheck NoTable name file inputs found = Unit {0}
FitsCheck (HasTable texts segments) name file inputs found = (table : Table) (bytes : List ℕ)
    → AsksCheck texts segments name file inputs table bytes → IsFound table name bytes found

-- ---- over any published files

-- the file is the image of rows, and the segment of them was published
pub record IsAttached (inputs files : Files) (name file text : List ℕ) (new : Option Files)
    : Type 0 where
  pub named : IsSegmentName name
  pub table : Table
  pub place : HasPlace files name table
  pub bytes : List ℕ
  pub bytes_are : map.get inputs file ≡ Some bytes
  pub rows : List (List Value)
  pub is_image : IsImageOf table name bytes rows
  pub text_is : text ≡ attached_text name (length rows)
  pub leaves : new ≡ with_file (file_of name) (image 1 table name rows) (Some files)

-- the store has a place, and there is no such file
pub record LacksInput (inputs files : Files) (name file : List ℕ) (line : Note) : Type 0 where
  pub table : Table
  pub place : HasPlace files name table
  pub missing : map.get inputs file ≡ None
  pub line_is : line ≡ note.NoInput file

-- the store has a place, and the file is the image of no rows, for this part of it
pub record IsUnlikeInput (inputs files : Files) (name file : List ℕ) (line : Note) : Type 0 where
  pub table : Table
  pub place : HasPlace files name table
  pub bytes : List ℕ
  pub bytes_are : map.get inputs file ≡ Some bytes
  pub wrong : Part
  pub none : IsNoImage table name bytes wrong
  pub line_is : line ≡ note.NotASegment name (part_text table.schema.fields wrong)

-- why `attach` is refused
abbrev pub AttachRefuses : List ℕ → List ℕ → Files → Files → Note → Type 0
AttachRefuses name file inputs files line = PlaceRefuses name files line
    ⊎ (LacksInput inputs files name file line ⊎ IsUnlikeInput inputs files name file line)
