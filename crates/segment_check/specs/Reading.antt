-- What is read of a file, a part after the other (inside the crate alone).
use Rattle.std.specs.Prelude.{◌≡◌, ◌+◌, ◌<◌, ◌⊎◌, ℕ, pos, List, [], length, take, get_or, slice_get, Option, Some, IfSome, false, Result, IfErr, IfOk, IsErrOf, OnOk}
use Rattle.std.specs.List.{All}
use Rattle.outside.specs.Files.{Files}
use Rattle.outside.specs.Reads.{Entry}
use Rattle.outside.specs.Seen as outside
use Rattle.outside.specs.Seen.{OnlyReads}
use Rattle.values.specs.Columns.{Counts, Listed, ListedColumns, rows_of}
use Rattle.values.specs.declared.value.Value.{Value}
use Rattle.value_ids.specs.Coding.{AreBelow, values_at}
use Rattle.value_ids.specs.Dictionary.{Distinct, IsDictionary, IsUnicode}
use Rattle.bit_column.specs.Column.{ids_between, width_of}
use Rattle.bit_column.specs.Sections.{Readable}
use Rattle.table_schema.specs.declared.table.Table.{Table}
use Rattle.table_schema.specs.ValidTable.{AreRows, IsValidTable}
use Rattle.segment_file.specs.Columns.{kind_at}
use Rattle.segment_file.specs.declared.fault.HeadFault.{HeadFault}
use Rattle.segment_file.specs.declared.fault.HeadFault.TheVariants.{NotASegment, ReadFault}
use Rattle.segment_file.specs.declared.part.Part.{Part}
use Rattle.segment_file.specs.declared.part.Part.TheVariants as parts
use Rattle.segment_file.specs.Front.{Front, extents_of, head_end}
use Rattle.segment_file.specs.Image.{image}
use Rattle.segment_file.specs.Names.{IsSegmentName}
use Rattle.segment_file.specs.Parts.{sections_of}
use Rattle.segment_file.specs.Rules.{FailsAt, HasFront}
use Rattle.segment_head.specs.Heads.{AreIn, IsHead, IsPlaced, Seen, bytes_in, place_in}
use Rattle.segment_build.specs.Compared.{DifferAt}
use Rattle.segment_build.specs.FileReads.{LogsFile, LogsOnce}
use Rattle.segment_build.specs.Growing.{IsTooLarge, TreesFit}
use Rattle.segment_check.specs.Calls.{OfBytes}
use Rattle.segment_check.specs.Checked.{part_at}
use Rattle.segment_check.specs.declared.head.FileHead.{FileHead}

-- the sections, the front and the head of a file with these bytes
pub record IsFileHead (table : Table) (name file bytes : List ℕ) (read : FileHead) : Type 0 where
  pub parts_are : read.parts.items ≡ sections_of table
  pub front_is : HasFront table name bytes read.front
  pub head_is : IsHead table name file bytes read.head

-- those of some file that may be the segment's of this name
pub record IsSomeHead (table : Table) (name : List ℕ) (read : FileHead) : Type 0 where
  pub valid : IsValidTable table
  pub named : IsSegmentName name
  pub file : List ℕ
  pub bytes : List ℕ
  pub is : IsFileHead table name file bytes read

-- the forward index of a column in the told files
abbrev pub forward_of : Files → Seen → ℕ → List ℕ
forward_of files head column = bytes_in files (place_in head.sections (parts.Forward column))

-- it has an id for each row, of one of so many values
abbrev pub HasIdsOf : Files → Seen → ℕ → ℕ → Type 0
HasIdsOf files head column count = Readable (width_of count) count 0 head.rows
    (forward_of files head column)

-- the values of the rows in a column with this dictionary: each that of an id, and where files are
-- told, of the ids in its forward index
pub record IsColumn (held : Option Files) (head : Seen) (column : ℕ) (d : Distinct)
    (values : List Value) : Type 0 where
  pub ids : List ℕ
  pub count : length ids ≡ head.rows
  pub below : AreBelow (length d.values) ids
  pub values_are : values ≡ values_at d.values ids
  pub told : IfSome held (λ files. HasIdsOf files head column (length d.values)
      × (ids ≡ ids_between (width_of (length d.values)) 0 head.rows
      (forward_of files head column)))

-- a column without values
abbrev pub no_column : Listed
no_column = record { are_texts = false; values = [] }

-- the first so many columns were read
pub record AreColumns (held : Option Files) (head : Seen) (count : ℕ) (columns : List Listed)
    : Type 0 where
  pub many : length columns ≡ count
  pub each : (column : ℕ) (d : Distinct) → column < count
      → slice_get head.dictionaries column ≡ Some (Some d)
      → IsColumn held head column d (get_or columns column no_column).values

-- this column is the first without such an id for each row
pub record FailsColumn (table : Table) (held : Option Files) (head : Seen) (column : ℕ) : Type 0
  where
    pub field : column < length table.schema.fields
    pub before : IfSome held (λ files. (other : ℕ) (d : Distinct) → other < column
        → slice_get head.dictionaries other ≡ Some (Some d)
        → HasIdsOf files head other (length d.values))
    pub none : (d : Distinct) → slice_get head.dictionaries column ≡ Some (Some d)
        → IfSome held (λ files. ¬ HasIdsOf files head column (length d.values))

-- the columns of rows of a table, as many as it has fields
pub record AreOfFields (table : Table) (t : ListedColumns) : Type 0 where
  pub width : length t.columns ≡ length table.schema.fields
  pub counts : All (Counts t.count) t.columns
  pub rows : AreRows table.schema.fields (rows_of t)
  pub unicode : All (λ row. All IsUnicode row) (rows_of t)

-- the file is not the image of these rows: a star-tree of theirs is too large, or a byte of this
-- part is the first that is another
abbrev pub IsUnlike : Table → List ℕ → List ℕ → Option Files → Front → List (List Value) → Part
    → Type 0
IsUnlike table name file held front rows p =
    ((t : ℕ) × (p ≡ parts.Nodes t) × IsTooLarge table rows t)
    ⊎ (TreesFit table rows × OfBytes held file (λ bytes. (at : ℕ)
    × DifferAt (image 1 table name rows) bytes at
    × (p ≡ part_at (extents_of table name front) at)))

-- the sections of a head that was read are where its front says
pub record IsPlacedHead (table : Table) (name file : List ℕ) (read : FileHead) : Type 0 where
  pub placed : IsPlaced table name file read.front read.head
  pub each : length read.front.sizes ≡ length (sections_of table)

-- the told log grew by reads of the file after its head, of no byte twice
abbrev pub LogsColumns : Table → Seen → Option (List Entry) → Option (List Entry) → Type 0
LogsColumns table head old new = (name file : List ℕ) (front : Front)
    → IsPlaced table name file front head → length front.sizes ≡ length (sections_of table)
    → (to : ℕ) × LogsOnce file (head_end table name front) to old new

-- it grew by reads of the forward index of a column, of no byte twice
abbrev pub LogsColumn : Seen → ℕ → Option (List Entry) → Option (List Entry) → Type 0
LogsColumn head column old new = IfSome (place_in head.sections (parts.Forward column)) (λ place.
    LogsOnce place.file place.offset (place.offset + place.length) old new)

-- ---- what the calls promise

-- the head of a file was read, or the part of the first rule that fails
pub record ReadsFileHead (table : Table) (name file : List ℕ) (old new : outside.Seen)
    (result : Result FileHead HeadFault) : Type 0 where
  pub some : IfOk result (IsSomeHead table name)
  pub told : IfOk result (λ read. OfBytes old.held file (λ bytes.
      IsFileHead table name file bytes read))
  pub refused : IfErr result (λ fault. (p : Part) → fault ≡ NotASegment p
      → OfBytes old.held file (λ bytes. FailsAt table name bytes p))
  pub placed : IfOk result (λ read. AreIn file read.head.sections)
  pub placed_is : IfOk result (IsPlacedHead table name file)
  pub only_reads : OnlyReads (IsErrOf result ReadFault) old new
  pub log : LogsFile file old.log new.log
  pub once : (to : ℕ) × LogsOnce file 0 to old.log new.log
  pub once_head : IfOk result (λ read. LogsOnce file 0 (head_end table name read.front) old.log
      new.log)

-- a file with this front was compared with the image of rows, whose bytes it has from the first on
pub record ComparesImage (table : Table) (name file : List ℕ) (front : Front)
    (rows : List (List Value)) (old new : outside.Seen) (result : Result (Unit {0}) HeadFault)
    : Type 0 where
  pub fits : OnOk result (TreesFit table rows)
  pub same : OnOk result (OfBytes old.held file (λ bytes.
      take (length (image 1 table name rows)) bytes ≡ image 1 table name rows))
  pub refused : IfErr result (λ fault. (p : Part) → fault ≡ NotASegment p
      → IsUnlike table name file old.held front rows p)
  pub only_reads : OnlyReads (IsErrOf result ReadFault) old new
  pub log : LogsFile file old.log new.log
  pub once : (to : ℕ) × LogsOnce file 0 to old.log new.log
