-- What the calls that open a segment ask, give, are refused by and read.
use Rattle.std.specs.Prelude.{◌≡◌, ◌≢◌, ◌<◌, ◌⊎◌, ℕ, Bool, false, List, length, Option, Some, Result, Err, IfSome, IsErrOf, OnOk}
use Rattle.outside.specs.Files.{Files, bytes_of}
use Rattle.outside.specs.Seen.{OnlyReads, Seen}
use Rattle.table_schema.specs.ValidQuery.{IsValidQuery}
use Rattle.table_schema.specs.ValidTable.{IsValidTable}
use Rattle.table_schema.specs.declared.query.BoundQuery.{BoundQuery}
use Rattle.table_schema.specs.declared.table.Table.{Table}
use Rattle.segment_file.specs.declared.part.Part.{Part}
use Rattle.segment_head.specs.Calls.{FailsLoading, FailsOpening, HasOpening, IsOpeningPart}
use Rattle.segment_head.specs.Heads as heads
use Rattle.segment_head.specs.Stored.{HasNoImage}
use Rattle.segment_head.specs.declared.stored.Stored.{Stored}
use Rattle.segment_head.specs.declared.fault.EngineFault.{EngineFault}
use Rattle.segment_head.specs.declared.fault.EngineFault.TheVariants as engine
use Rattle.segment_plan.specs.Matched.{AreLoaded}
use Rattle.segment_plan.specs.Named.{AreGroupsLoaded, AreNamedLoaded}
use Rattle.segment_reads.specs.Logs.{DictionariesEnd, EndsBy, EndsInHead, LogsHeadOf, LogsThat}
use Rattle.segment_opening.specs.Opened.{Grows, IsHeadIn, IsSpreadIn}

-- ---- what is asked

-- a query over the segment of a table that has this head
pub record IsQueryOnHead (bound : BoundQuery) (table : Table) (head : heads.Seen) : Type 0 where
  pub valid : IsValidTable table
  pub query : IsValidQuery table bound
  pub of_table : heads.IsHeadOf table head

-- ---- a head that is opened

-- where files are told: the segment's file has a front and bounds
abbrev pub HasOpeningIn : Table → Option Files → Stored → Type 0
HasOpeningIn table held segment =
    IfSome held (λ files. HasOpening table segment.name (bytes_of (Some files) segment.file))

-- the part is the first that the segment's file lacks, of its front and its bounds
abbrev pub IsUnopened : Table → Option Files → Stored → Part → Type 0
IsUnopened table held segment part = IsOpeningPart part × IfSome held (λ files.
    FailsOpening table segment.name (bytes_of (Some files) segment.file) part)

-- the head of a segment: where its sections are, and where files are told, what its
-- file says, and that of the image that it is
pub record IsOpened (table : Table) (held : Option Files) (segment : Stored) (head : heads.Seen)
    : Type 0 where
  pub of : heads.IsHeadOf table head
  pub placed : heads.AreIn segment.file head.sections
  pub image : IsHeadIn table held segment head
  pub ends : IfSome held (λ files. EndsInHead table files segment head)
  pub spread : IsSpreadIn table held segment head
  pub opening : HasOpeningIn table held segment
  pub said : IfSome held (λ files. heads.IsOpened table segment.name segment.file
      (bytes_of (Some files) segment.file) head)

-- the dictionary of some column of an open head is not loaded for this part
abbrev pub FailsColumn : Table → Option Files → heads.Seen → Part → Type 0
FailsColumn table held head part = (column : ℕ) × (column < length table.schema.fields)
    × FailsLoading table held head column part

-- the part fails in the head of the segment's file: it is the first that is not there, of the front
-- and the bounds; or a dictionary of the open head is not loaded for it
abbrev pub FailsInHead : Table → Option Files → Stored → Part → Type 0
FailsInHead table held segment part = IsUnopened table held segment part
    ⊎ ((head : heads.Seen) × IsOpened table held segment head × FailsColumn table held head part)

-- it does, and the file is the image of no rows
abbrev pub IsBadHead : Table → Option Files → Stored → Part → Type 0
IsBadHead table held segment part = FailsInHead table held segment part
    × IfSome held (λ files. HasNoImage table files segment)

-- the head of a segment alone was read, or it is refused
pub record LooksAtHead {A : Type 0} (table : Table) (segment : Stored) (old new : Seen)
    (result : Result A EngineFault) : Type 0 where
  pub bad : (part : Part) → result ≡ Err (engine.NotASegment part)
      → IsBadHead table old.held segment part
  pub never_full : result ≢ Err engine.TooManyGroups
  pub only_reads : OnlyReads (IsErrOf result engine.ReadFault) old new
  pub log : LogsHeadOf table old.held segment old.log new.log

-- ---- dictionaries that are loaded

-- more dictionaries of a head were loaded, or its file is refused; and nothing past them was read
pub record LoadsMore {A : Type 0} (table : Table) (result : Result A EngineFault)
    (head grown : heads.Seen) (old new : Seen) : Type 0 where
  pub grows : OnOk result (Grows table old.held head grown)
  pub bad : (part : Part) → result ≡ Err (engine.NotASegment part) → (segment : Stored)
      → IsHeadIn table old.held segment head
      → IfSome old.held (λ files. HasNoImage table files segment)
  pub named : (part : Part) → result ≡ Err (engine.NotASegment part)
      → FailsColumn table old.held head part
  pub never_full : result ≢ Err engine.TooManyGroups
  pub only_reads : OnlyReads (IsErrOf result engine.ReadFault) old new
  pub log : (file : List ℕ) (end : ℕ) → heads.AreIn file head.sections
      → DictionariesEnd table head end → LogsThat (EndsBy file end) old.log new.log

-- ---- dictionaries that are looked up

-- values were looked up in dictionaries of a head; no part of its file is refused for that, and
-- nothing past them was read
pub record LooksUp {A : Type 0} (table : Table) (result : Result A EngineFault) (head : heads.Seen)
    (old new : Seen) : Type 0 where
  pub never_bad : (part : Part) → result ≢ Err (engine.NotASegment part)
  pub never_full : result ≢ Err engine.TooManyGroups
  pub only_reads : OnlyReads (IsErrOf result engine.ReadFault) old new
  pub log : (file : List ℕ) (end : ℕ) → heads.AreIn file head.sections
      → DictionariesEnd table head end → LogsThat (EndsBy file end) old.log new.log

-- what the answer of a segment wants was loaded, as it is asked for an answer by a star-tree or
-- not
pub record HasWanted (query : BoundQuery) (by_tree : Bool) (head : heads.Seen) : Type 0 where
  pub filtered : AreLoaded query.conjuncts head
  pub grouped : AreGroupsLoaded query.groups head
  pub named : by_tree ≡ false → AreNamedLoaded query head
