-- Segments where they are stored, and those whose file is the image of rows.
use Rattle.std.specs.Prelude.{◌≡◌, ℕ, List, [], flat_map, get_or, map, Option, Some, IfSome}
use Rattle.outside.specs.Files.{Files, bytes_of}
use Rattle.values.specs.declared.value.Value.{Value}
use Rattle.table_schema.specs.declared.table.Table.{Table}
use Rattle.segment_head.specs.Heads.{IsHead, IsPartOf, Seen}
use Rattle.segment_head.specs.declared.stored.Stored.{Stored}
use Rattle.segment_file.specs.Image.{CanHold, image}
use Rattle.segment_file.specs.Names.{IsSegmentName, file_of}
use Rattle.segment_file.specs.Ordered.{ordered}

-- the segment of this name where a store publishes it
abbrev pub live : List ℕ → Stored
live name = record { file = file_of name; name = name }

-- the segment with this number, from 0
abbrev pub segment_at : List Stored → ℕ → Stored
segment_at stored at = get_or stored at (live [])

-- the names of segments
abbrev pub names_of : List Stored → List (List ℕ)
names_of stored = map (λ segment. segment.name) stored

-- the file of the head is told to be the image of these rows, which the table can hold
pub record IsOfImage (table : Table) (files : Files) (rows : List (List Value)) (head : Seen)
    : Type 0 where
  pub name : List ℕ
  pub file : List ℕ
  pub whole : Seen
  pub named : IsSegmentName name
  pub can : CanHold table rows
  pub stored : bytes_of (Some files) file ≡ image 1 table name rows
  pub is_head : IsHead table name file (image 1 table name rows) whole
  pub part : IsPartOf whole head

-- the file of the head is told to be the image of no rows
abbrev pub IsNoImage : Table → Option Files → Seen → Type 0
IsNoImage table held head = IfSome held (λ files. (rows : List (List Value))
    → ¬ IsOfImage table files rows head)

-- the file of a segment is told to be the image of these rows, which the table can hold
pub record HasImage (table : Table) (files : Files) (segment : Stored) (rows : List (List Value))
    : Type 0 where
  pub can : CanHold table rows
  pub stored : bytes_of (Some files) segment.file ≡ image 1 table segment.name rows

-- the file of a segment is the image of no rows
abbrev pub HasNoImage : Table → Files → Stored → Type 0
HasNoImage table files segment = (rows : List (List Value)) → ¬ HasImage table files segment rows

-- the rows of segments, one segment after the other, each in the order of its file
abbrev pub stored_rows : Table → List (List (List Value)) → List (List Value)
stored_rows table segments = flat_map (ordered table.settings.sorted) segments
