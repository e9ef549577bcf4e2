-- The head of a segment that is opened.
use Rattle.std.specs.Prelude.{◌≡◌, ℕ, List, Option, IfSome, map}
use Rattle.outside.specs.Files.{Files}
use Rattle.values.specs.declared.value.Value.{Value}
use Rattle.table_schema.specs.declared.table.Table.{Table}
use Rattle.segment_file.specs.Front.{extents_of}
use Rattle.segment_head.specs.Heads.{IsHeadOf, IsLoaded, Seen, placed}
use Rattle.segment_file.specs.Image.{front_of}
use Rattle.segment_file.specs.Ordered.{ordered}
use Rattle.segment_head.specs.Stored.{IsOfImage, HasImage}
use Rattle.segment_head.specs.declared.stored.Stored.{Stored}

-- where files are told: if the segment's file is the image of rows, this is its head, but for
-- dictionaries that are not loaded
abbrev pub IsHeadIn : Table → Option Files → Stored → Seen → Type 0
IsHeadIn table held segment head = IfSome held (λ files. (rows : List (List Value))
    → HasImage table files segment rows → IsOfImage table files rows head)

-- where files are told: if the segment's file is the image of rows, the head says where the
-- sections of these are
abbrev pub IsSpreadIn : Table → Option Files → Stored → Seen → Type 0
IsSpreadIn table held segment head = IfSome held (λ files. (rows : List (List Value))
    → HasImage table files segment rows → head.sections ≡ map (placed segment.file)
    (extents_of table segment.name (front_of 1 table (ordered table.settings.sorted rows))))

-- a head before and after more dictionaries were loaded
pub record Grows (table : Table) (held : Option Files) (old new : Seen) : Type 0 where
  pub of_table : IsHeadOf table new
  pub rows_same : new.rows ≡ old.rows
  pub sections_same : new.sections ≡ old.sections
  pub bounds_same : new.bounds ≡ old.bounds
  pub loaded : (column : ℕ) → IsLoaded old column → IsLoaded new column
  pub image : (segment : Stored) → IsHeadIn table held segment old → IsHeadIn table held segment new
