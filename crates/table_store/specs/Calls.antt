-- What calls on a store tell of its files, and leave of its depot.
use Rattle.std.specs.Prelude.{◌≡◌, ◌≤◌, ℕ, List, Option, Some, Result, IfErr, IfOk, IfSome, IsErrOf, OnOk}
use Rattle.outside.specs.Counts.{Rose}
use Rattle.outside.specs.Files.{Files, SameBut, with_file, without_file}
use Rattle.outside.specs.Seen.{OnlyReads, Seen}
use Rattle.values.specs.declared.value.Value.{Value}
use Rattle.table_schema.specs.declared.table.Table.{Table}
use Rattle.segment_build.specs.Growing.{TreesFit}
use Rattle.segment_build.specs.FileReads.{LogsFile}
use Rattle.segment_build.specs.Publishing.{incoming}
use Rattle.segment_file.specs.Image.{image}
use Rattle.segment_file.specs.Names.{file_of}
use Rattle.segment_file.specs.declared.part.Part.{Part}
use Rattle.table_store.specs.Images.{IsNoStoredImage, IsSpelledText, IsStoredCount, SpellsNoStored}
use Rattle.table_store.specs.Segments.{HasRoom, HasSegment, IsFull, LacksSegment}
use Rattle.table_store.specs.declared.fault.StoreFault.{StoreFault}
use Rattle.table_store.specs.declared.fault.StoreFault.TheVariants.{NameTaken, NoMemory, NoSegment, NotASegment, ReadFault, TooManySegments}

-- what a look for a place for a segment of this name tells: there is none of the name and there are
-- fewer than the most, or why there is no place
pub record TellsPlace {A : Type 0} (held : Option Files) (name : List ℕ)
    (result : Result A StoreFault) : Type 0 where
  pub free : OnOk result (LacksSegment held name)
  pub room : OnOk result (IfSome held HasRoom)
  pub taken : IsErrOf result NameTaken → HasSegment held name
  pub many : IsErrOf result TooManySegments → LacksSegment held name × IfSome held IsFull

-- the file of a segment of these rows is published under its name, the part that it was written as
-- is gone, and no star-tree of the rows is too large
pub record IsPublished (table : Table) (name : List ℕ) (rows : List (List Value)) (old new : Seen)
    : Type 0 where
  pub published : new.held ≡ with_file (file_of name) (image 1 table name rows) old.held
  pub gone : new.parts ≡ without_file incoming old.parts
  pub fits : TreesFit table rows

-- why a segment of a table is refused by its file
abbrev pub IsCheckFault : StoreFault → Type 0
IsCheckFault NoSegment = Unit {0}
IsCheckFault (NotASegment part) = Unit {0}
IsCheckFault ReadFault = Unit {0}
IsCheckFault NoMemory = Unit {0}
IsCheckFault other = ⊥

-- the file of the segment of this name was looked at, and no other: it is of what is answered, or
-- of none, or there is no such file, and nothing is read
pub record LooksAtSegment {A : Type 0} (IsOf : Files → A → Type 0)
    (IsOfNone : Files → Part → Type 0) (name : List ℕ) (old new : Seen)
    (result : Result A StoreFault) : Type 0 where
  pub there : OnOk result (HasSegment old.held name)
  pub image : IfOk result (λ a. IfSome old.held (λ files. IsOf files a))
  pub missing : IsErrOf result NoSegment → LacksSegment old.held name
  pub refused : IfErr result (λ fault. (p : Part) → fault ≡ NotASegment p
      → HasSegment old.held name × IfSome old.held (λ files. IsOfNone files p))
  pub only : IfErr result IsCheckFault
  pub only_reads : OnlyReads (IsErrOf result ReadFault) old new
  pub log : LogsFile (file_of name) old.log new.log
  pub unread : IfSome old.held (λ files. LacksSegment (Some files) name → new.log ≡ old.log)

-- it was looked at whole: it is the image of as many rows as are answered, or of none
abbrev pub CountsSegment : Table → List ℕ → Seen → Seen → Result ℕ StoreFault → Type 0
CountsSegment table name = LooksAtSegment (λ files count. IsStoredCount table files name count)
    (λ files part. IsNoStoredImage table files name part) name

-- its head and its ids were looked at: it spells rows whose text is answered, or none
abbrev pub SpellsSegment : Table → List ℕ → Seen → Seen → Result (List ℕ) StoreFault → Type 0
SpellsSegment table name = LooksAtSegment (λ files text. IsSpelledText table files name text)
    (λ files part. SpellsNoStored table files name part) name

-- what a call that looks at names and lengths of files alone leaves of a depot
pub record ReadsNoByte (Fails : Type 0) (old new : Seen) : Type 0 where
  pub reads : OnlyReads Fails old new
  pub log : new.log ≡ old.log

-- what a call that looks at names and lengths of files, and then takes a file away, leaves of the
-- rest of a depot; each count of faults rose just where the call failed so
pub record OnlyRemoves (FailsToRead FailsToWrite : Type 0) (old new : Seen) : Type 0 where
  pub parts : new.parts ≡ old.parts
  pub log : new.log ≡ old.log
  pub reads_later : old.read_faults ≤ new.read_faults
  pub read_failed : FailsToRead → Rose old.read_faults new.read_faults
  pub reads_still : ¬ FailsToRead → new.read_faults ≡ old.read_faults
  pub writes_later : old.write_faults ≤ new.write_faults
  pub write_failed : FailsToWrite → Rose old.write_faults new.write_faults
  pub writes_still : ¬ FailsToWrite → new.write_faults ≡ old.write_faults

-- what a call that looks at names and lengths of files, and then writes the part that files are
-- published by, leaves of the rest of a depot; each count of faults rose just where the call failed
-- so
pub record OnlyPublishes (FailsToRead FailsToWrite : Type 0) (old new : Seen) : Type 0 where
  pub parts : SameBut incoming old.parts new.parts
  pub log : new.log ≡ old.log
  pub reads_later : old.read_faults ≤ new.read_faults
  pub read_failed : FailsToRead → Rose old.read_faults new.read_faults
  pub reads_still : ¬ FailsToRead → new.read_faults ≡ old.read_faults
  pub writes_later : old.write_faults ≤ new.write_faults
  pub write_failed : FailsToWrite → Rose old.write_faults new.write_faults
  pub writes_still : ¬ FailsToWrite → new.write_faults ≡ old.write_faults

-- what a call that reads one file, and writes the part that files are published by, leaves of the
-- rest of a depot; each count of faults rose just where the call failed so
pub record CopiesFile (file : List ℕ) (FailsToRead FailsToWrite : Type 0) (old new : Seen) : Type 0
  where
    pub parts : SameBut incoming old.parts new.parts
    pub log : LogsFile file old.log new.log
    pub reads_later : old.read_faults ≤ new.read_faults
    pub read_failed : FailsToRead → Rose old.read_faults new.read_faults
    pub reads_still : ¬ FailsToRead → new.read_faults ≡ old.read_faults
    pub writes_later : old.write_faults ≤ new.write_faults
    pub write_failed : FailsToWrite → Rose old.write_faults new.write_faults
    pub writes_still : ¬ FailsToWrite → new.write_faults ≡ old.write_faults
