-- What the calls that read a head, or a part of one, ask, tell, are refused by and read.
use Rattle.std.specs.Prelude.{◌≡◌, ◌≤◌, ◌<◌, ◌+◌, ◌^◌, ◌⊎◌, ℕ, List, [], length, Option, Some, Result, IfErr, IfOk, IfSome, IsErrOf, slice_get, slice_index_or}
use Rattle.outside.specs.Files.{EndsBefore, Files, bytes_of}
use Rattle.outside.specs.declared.place.Place.{Place}
use Rattle.outside.specs.Seen as outside
use Rattle.outside.specs.Seen.{OnlyReads}
use Rattle.data_types.specs.declared.kind.FieldKind.{FieldKind}
use Rattle.table_schema.specs.ValidTable.{IsValidTable}
use Rattle.table_schema.specs.declared.table.Table.{Table}
use Rattle.value_ids.specs.Dictionary.{Distinct}
use Rattle.bit_column.specs.Sections.{section}
use Rattle.segment_file.specs.declared.bounds.Ends.{Ends}
use Rattle.segment_file.specs.declared.section.Section.{Section}
use Rattle.segment_file.specs.Bounds.{AreBounds, bounded}
use Rattle.segment_file.specs.Columns.{kind_at}
use Rattle.segment_file.specs.Front.{Front, file_end}
use Rattle.segment_file.specs.Parts.{sections_of}
use Rattle.segment_file.specs.Rules.{FailsAt, HasFront, IsSpelled, KeepsRules, heads_in}
use Rattle.segment_file.specs.declared.fault.HeadFault.{HeadFault}
use Rattle.segment_file.specs.declared.fault.HeadFault.TheVariants.{NotASegment, ReadFault}
use Rattle.segment_file.specs.declared.part.Part.{Part}
use Rattle.segment_file.specs.declared.part.Part.TheVariants.{Bounds, Dictionary, Head, Nodes}
use Rattle.segment_head.specs.Heads.{AreIn, IsBare, IsHead, IsHeadOf, IsOpened, IsPartOf, LogsHead, LogsOpened, OfWhole, Seen, dictionary_section, split_of}

-- ---- what is asked

-- a column of the table that an open head is of
pub record IsColumnOf (table : Table) (head : Seen) (number : ℕ) : Type 0 where
  pub opened : IsHeadOf table head
  pub column : number < length table.schema.fields

-- a star-tree of the table that an open head is of
pub record IsTreeOf (table : Table) (head : Seen) (number : ℕ) : Type 0 where
  pub valid : IsValidTable table
  pub opened : IsHeadOf table head
  pub tree : number < length table.settings.trees

-- what a front says may be said of a file of the table, whose sections these are
pub record MayBeFront (table : Table) (text : List ℕ) (front : Front) (sections : List Part)
    : Type 0 where
  pub valid : IsValidTable table
  pub name : length text ≤ 64
  pub parts : sections ≡ sections_of table
  pub each : length front.sizes ≡ length sections
  pub rows : front.rows ≤ 1048576
  pub short : file_end table text front < 2 ^ 64

-- ---- a head that is read

-- the whole head of a file was read, or the part of the first rule that fails; and nothing past it
pub record ReadsHead (table : Table) (name file : List ℕ) (old new : outside.Seen)
    (result : Result Seen HeadFault) : Type 0 where
  pub of : IfOk result (IsHeadOf table)
  pub head : IfOk result (λ head. IfSome old.held (λ files.
      IsHead table name file (bytes_of (Some files) file) head))
  pub refused : IfErr result (λ fault. (p : Part) → fault ≡ NotASegment p
      → IfSome old.held (λ files. FailsAt table name (bytes_of (Some files) file) p))
  pub only_reads : OnlyReads (IsErrOf result ReadFault) old new
  pub log : LogsHead table name file old.held old.log new.log

-- these are the bounds that the bytes of a file with this front have
abbrev pub HasBounds : Table → List ℕ → List ℕ → Front → List Ends → Type 0
HasBounds table name bytes front bounds =
    AreBounds (bounded front.rows table.schema.fields)
    (slice_index_or (heads_in table name front bytes) 0 []) bounds

-- the bytes of a file have a front and bounds
abbrev pub HasOpening : Table → List ℕ → List ℕ → Type 0
HasOpening table name bytes = (front : Front) × (bounds : List Ends)
    × HasFront table name bytes front × HasBounds table name bytes front bounds

-- the part is the first that is not there: the front, which is of the head, or else the bounds
abbrev pub FailsOpening : Table → List ℕ → List ℕ → Part → Type 0
FailsOpening table name bytes p =
    ((p ≡ Head) × ((front : Front) → ¬ HasFront table name bytes front))
    ⊎ ((front : Front) × (p ≡ Bounds) × HasFront table name bytes front
    × ((bounds : List Ends) → ¬ HasBounds table name bytes front bounds))

-- the part is the head or the bounds
abbrev pub IsOpeningPart : Part → Type 0
IsOpeningPart p = (p ≡ Head) ⊎ (p ≡ Bounds)

-- the front and the bounds of a file were read, so that its head is open and nothing of it loaded;
-- or a rule fails: of what is looked at, the first
pub record OpensHead (table : Table) (name file : List ℕ) (old new : outside.Seen)
    (result : Result Seen HeadFault) : Type 0 where
  pub of : IfOk result (IsHeadOf table)
  pub bare : IfOk result IsBare
  pub placed : IfOk result (λ head. AreIn file head.sections)
  pub opened : IfOk result (λ head. IfSome old.held (λ files.
      IsOpened table name file (bytes_of (Some files) file) head))
  pub part : IfOk result (λ head. IfSome old.held (λ files. (whole : Seen)
      → IsHead table name file (bytes_of (Some files) file) whole → IsPartOf whole head))
  pub refused : IfErr result (λ fault. (p : Part) → fault ≡ NotASegment p
      → IfSome old.held (λ files. ¬ KeepsRules table name (bytes_of (Some files) file)))
  pub named : IfErr result (λ fault. (p : Part) → fault ≡ NotASegment p → IsOpeningPart p)
  pub first : IfErr result (λ fault. (p : Part) → fault ≡ NotASegment p
      → IfSome old.held (λ files. FailsOpening table name (bytes_of (Some files) file) p))
  pub only_reads : OnlyReads (IsErrOf result ReadFault) old new
  pub log : LogsOpened table name file old.held old.log new.log

-- ---- a part of a head that is read

-- a part of an open head was read: what was read has P with the whole head, or the file is refused
pub record ReadsPart {A : Type 0} (P : A → Seen → Type 0) (table : Table) (head : Seen)
    (old new : outside.Seen) (result : Result A HeadFault) : Type 0 where
  pub told : IfOk result (λ a. OfWhole table old.held head (P a))
  pub refused : IfErr result (λ fault. (p : Part) → fault ≡ NotASegment p
      → OfWhole table old.held head (λ _. ⊥))
  pub only_reads : OnlyReads (IsErrOf result ReadFault) old new

-- ---- the part that is named where a part of a head is refused

-- one of these
abbrev pub Names : {A : Type 0} → (Part → Type 0) → Result A HeadFault → Type 0
Names P result = IfErr result (λ fault. (p : Part) → fault ≡ NotASegment p → P p)

-- where a dictionary of a kind is read of a place, in a file of so many rows: the head, where files
-- are told one that ends before the place does, or the dictionary, whose bytes there are those of
-- none
abbrev pub FailsPlace : FieldKind → ℕ → ℕ → Option Files → Place → Part → Type 0
FailsPlace kind rows column held place p =
    ((p ≡ Head) × EndsBefore held place.file (place.offset + place.length))
    ⊎ ((p ≡ Dictionary column) × IfSome held (λ files. (d : Distinct)
    → ¬ IsSpelled kind rows (section files place) d))

-- where the dictionary of a column is loaded: such a part of the place of its section
pub record FailsLoading (table : Table) (held : Option Files) (head : Seen) (column : ℕ) (p : Part)
    : Type 0 where
  pub own : Section
  pub at : dictionary_section head column ≡ Some own
  pub fails : FailsPlace (kind_at table column) head.rows column held own.place p

-- where the number of values of this column is read: the head, where the file ends too early, or
-- the column's dictionary
abbrev pub IsCountPart : ℕ → Part → Type 0
IsCountPart column p = (p ≡ Head) ⊎ (p ≡ Dictionary column)

-- where this is read of the split dimensions of a tree: the same of one of them
pub record IsSplitPart (split : List ℕ) (p : Part) : Type 0 where
  pub level : ℕ
  pub column : ℕ
  pub at : slice_get split level ≡ Some column
  pub own : IsCountPart column p

-- where then the nodes of the tree are read: such a part, the head again, or the nodes
abbrev pub IsNodesPart : Table → ℕ → Part → Type 0
IsNodesPart table t p = IsSplitPart (split_of table t) p ⊎ ((p ≡ Head) ⊎ (p ≡ Nodes t))
