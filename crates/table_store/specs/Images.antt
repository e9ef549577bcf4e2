-- Whether the file of a stored segment is the image of rows, or spells rows. What the check of any
-- file finds comes with it, and that a value is no text but one in UTF-8.
use Rattle.std.specs.Prelude.{◌≡◌, ℕ, List, Some, length}
use Rattle.outside.specs.Files.{Files, bytes_of}
use Rattle.values.specs.declared.value.Value.{Value}
use Rattle.table_schema.specs.declared.table.Table.{Table}
use Rattle.csv_text.specs.Rows.{rows_text}
use Rattle.segment_file.specs.Names.{file_of}
use Rattle.segment_file.specs.declared.part.Part.{Part}
pub use Rattle.value_ids.specs.Dictionary.{IsUnicode}
pub use Rattle.segment_check.specs.Calls.{ChecksImage, OfBytes}
pub use Rattle.segment_check.specs.Checked.{IsImageOf, IsNoImage, Spells, SpellsNone}
pub use Rattle.segment_check.specs.Found.{Found, IsFound}

-- the file of the segment of this name is the image of these rows, which are in its order
abbrev pub IsStoredImage : Table → Files → List ℕ → List (List Value) → Type 0
IsStoredImage table files name rows = IsImageOf table name (bytes_of (Some files)
    (file_of name)) rows

-- it is the image of so many rows
abbrev pub IsStoredCount : Table → Files → List ℕ → ℕ → Type 0
IsStoredCount table files name count = (rows : List (List Value))
    × IsStoredImage table files name rows × (count ≡ length rows)

-- it is the image of no rows: this part is the first that is wrong
abbrev pub IsNoStoredImage : Table → Files → List ℕ → Part → Type 0
IsNoStoredImage table files name part = IsNoImage table name (bytes_of (Some files)
    (file_of name)) part

-- the file of the segment of this name spells these rows
abbrev pub SpellsStored : Table → Files → List ℕ → List (List Value) → Type 0
SpellsStored table files name rows = Spells table name (bytes_of (Some files) (file_of name)) rows

-- it spells rows of which this is the text: the names of the fields, and a record for each row
abbrev pub IsSpelledText : Table → Files → List ℕ → List ℕ → Type 0
IsSpelledText table files name text = (rows : List (List Value))
    × SpellsStored table files name rows × (text ≡ rows_text table.schema.fields rows)

-- it spells no rows, for this part of it
abbrev pub SpellsNoStored : Table → Files → List ℕ → Part → Type 0
SpellsNoStored table files name part = SpellsNone table name (bytes_of (Some files)
    (file_of name)) part
