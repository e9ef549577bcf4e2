-- Which files a store's state is kept in.
use Rattle.std.specs.Prelude.{◌≡◌, ◌≤◌, ◌<◌, ◌⊎◌, ℕ, List, length, Option, Some, None, option_map, if◌then◌else◌}
use Rattle.std.specs.FinMap as map
use Rattle.std.specs.Ordering.{eq_by_cmp}
use Rattle.outside.specs.Files.{Files, OfFile, name_order}
use Rattle.values.specs.declared.value.Value.{Value}
use Rattle.table_schema.specs.declared.table.Table as schema
use Rattle.segment_file.specs.Image.{CanHold, file_of_rows, image}
use Rattle.segment_file.specs.Names.{IsSegmentName, file_of}
use Rattle.segment_file.specs.Ordered.{ordered}
use Rattle.table_store.specs.State.{Segment, Segments, State, NoTable, HasTable, Texts}
use Rattle.table_store.specs.Accepted.{IsAccepted, IsTableFile}
use Rattle.table_store.specs.Kept.{IsKeptName}
use Rattle.table_store.specs.Segments.{AreNames, most_segments, stem}
use Rattle.table_store.specs.TableFile.{table_file, table_name}

-- ---- the segments of a table

-- the file of a segment of the table: that of its rows, which are in order
abbrev pub segment_file : schema.Table → List ℕ → Segment → List ℕ
segment_file table name segment = file_of_rows segment.format table name segment.rows

-- the file that a name has among those of segments
abbrev pub stored_segment : schema.Table → Segments → List ℕ → Option (List ℕ)
stored_segment table segments name =
    if eq_by_cmp name_order name (file_of (stem name)) then option_map
    (segment_file table (stem name)) (map.get segments (stem name)) else None

-- a segment that the table can have: of the format that is written, its rows in the order in which
-- a segment has them
pub record IsSegment (table : schema.Table) (segment : Segment) : Type 0 where
  pub format_is : segment.format ≡ 1
  pub came : List (List Value)
  pub can : CanHold table came
  pub in_order : segment.rows ≡ ordered table.settings.sorted came

-- ---- states

-- the checks accept the texts of a table as this one, and its segments are few, and each one of the
-- table
pub record IsTable (table : schema.Table) (texts : Texts) (segments : Segments) : Type 0 where
  pub accepted : IsAccepted texts table
  pub at_most : map.len segments ≤ most_segments
  pub named : (name : List ℕ) (segment : Segment) → map.get segments name ≡ Some segment
      → IsSegmentName name
  pub each : (name : List ℕ) (segment : Segment) → map.get segments name ≡ Some segment
      → IsSegment table segment

-- the bytes that a name has in the files of a table with segments
abbrev pub stored_file : schema.Table → Texts → Segments → List ℕ → Option (List ℕ)
stored_file table texts segments name = if eq_by_cmp name_order name table_name then Some
    (table_file texts) else stored_segment table segments name

-- the published files are just those of a table with segments, and any whose names are those of
-- kept files, which stand for nothing
pub record StandsFor (files : Files) (texts : Texts) (segments : Segments) : Type 0 where
  pub table : schema.Table
  pub valid : IsTable table texts segments
  pub stored : (name : List ℕ) → ¬ IsKeptName name
      → map.get files name ≡ stored_file table texts segments name

-- the published files are just those of a state: there is none where there is no table
abbrev pub Stands : Files → State → Type 0
Stands files NoTable = (name : List ℕ) → map.get files name ≡ None
Stands files (HasTable texts segments) = StandsFor files texts segments

-- ---- laws

-- files stand for at most one state
abbrev pub StandsForOne : Type 0
StandsForOne = (files : Files) (a b : State) → Stands files a → Stands files b → a ≡ b

-- where no file is published, there is no table
abbrev pub EmptyStands : Type 0
EmptyStands = Stands map.empty NoTable

-- where there is no table, the file of one makes the store stand for it
abbrev pub CreateStands : Type 0
CreateStands = (files : Files) (texts : Texts) (read : schema.Table) → Stands files NoTable
    → IsAccepted texts read → Stands (map.insert files table_name (table_file texts))
    (HasTable texts map.empty)

-- the file of a table is that of the one that the store stands for
abbrev pub TableStands : Type 0
TableStands = (files : Files) (texts : Texts) (segments : Segments) (read : schema.Table)
    → Stands files (HasTable texts segments) → OfFile (Some files) table_name
    (λ bytes. IsTableFile bytes read) → IsAccepted texts read

-- the segment of rows, in their order
abbrev pub segment_of : schema.Table → List (List Value) → Segment
segment_of table rows = record { format = 1; rows = ordered table.settings.sorted rows }

-- where there are fewer than the most segments and none of a name, the image of rows under that
-- name makes the store stand for the state with them
abbrev pub SegmentStands : Type 0
SegmentStands =
    (files : Files) (texts : Texts) (segments : Segments) (read : schema.Table) (name : List ℕ)
    (rows : List (List Value)) → Stands files (HasTable texts segments) → IsAccepted texts read
    → IsSegmentName name → CanHold read rows → map.len segments < most_segments
    → map.get segments name ≡ None
    → Stands (map.insert files (file_of name) (image 1 read name rows))
    (HasTable texts (map.insert segments name (segment_of read rows)))

-- where there is a segment of a name, the image of other rows in the place of its file makes the
-- store stand for the state with them in the place of its rows
abbrev pub ReplaceStands : Type 0
ReplaceStands =
    (files : Files) (texts : Texts) (segments : Segments) (read : schema.Table) (name : List ℕ)
    (rows : List (List Value)) (was : Segment) → Stands files (HasTable texts segments)
    → IsAccepted texts read → IsSegmentName name → CanHold read rows
    → map.get segments name ≡ Some was
    → Stands (map.insert files (file_of name) (image 1 read name rows))
    (HasTable texts (map.insert segments name (segment_of read rows)))

-- the store without the file of a segment stands for the state without the segment
abbrev pub DropStands : Type 0
DropStands = (files : Files) (texts : Texts) (segments : Segments) (name : List ℕ)
    → Stands files (HasTable texts segments)
    → Stands (map.remove files (file_of name)) (HasTable texts (map.remove segments name))

-- a kept file more, whatever its bytes, or one less, leaves what files stand for as it was
pub record KeptIdle : Type 0 where
  pub more : (files : Files) (texts : Texts) (segments : Segments) (kept bytes : List ℕ)
      → Stands files (HasTable texts segments) → IsKeptName kept
      → Stands (map.insert files kept bytes) (HasTable texts segments)
  pub less : (files : Files) (texts : Texts) (segments : Segments) (kept : List ℕ)
      → Stands files (HasTable texts segments) → IsKeptName kept
      → Stands (map.remove files kept) (HasTable texts segments)

-- this is the file of a table, or of a segment
abbrev pub IsLiveName : List ℕ → Type 0
IsLiveName file = (file ≡ table_name) ⊎ ((name : List ℕ) × (file ≡ file_of name))

-- the file of a table or of a segment that is put or taken away leaves each kept one as it was
pub record KeptStay : Type 0 where
  pub put : (files : Files) (file kept bytes : List ℕ) → IsLiveName file → IsKeptName kept
      → map.get (map.insert files file bytes) kept ≡ map.get files kept
  pub taken : (files : Files) (file kept : List ℕ) → IsLiveName file → IsKeptName kept
      → map.get (map.remove files file) kept ≡ map.get files kept

-- files that stand for a state have as many names of segments as it has segments
abbrev pub NamesCount : Type 0
NamesCount = (files : Files) (texts : Texts) (segments : Segments) (all : List (List ℕ))
    → StandsFor files texts segments → AreNames files all → length all ≡ map.len segments

-- where a store stands for a table, the names of the segments that have files are those of its
-- segments
abbrev pub NamesStand : Type 0
NamesStand = (files : Files) (texts : Texts) (segments : Segments) (names : List (List ℕ))
    → Stands files (HasTable texts segments) → AreNames files names → names ≡ map.keys segments
