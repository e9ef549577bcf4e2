-- What a call reads of a part of a file or of a range of ids, and when it is refused.
use Rattle.std.specs.Prelude.{◌≡◌, ◌<◌, ◌≤◌, ℕ, ◌+◌, ◌-◌, ◌*◌, List, length, Result, IfOk, IfSome, IsErrOf, OnErr, OnOk}
use Rattle.outside.specs.Files.{EndsBefore}
use Rattle.outside.specs.Reads.{LogsOn, LogsUpTo}
use Rattle.outside.specs.Seen.{OnlyReads, Seen}
use Rattle.outside.specs.declared.place.Place.{Place}
use Rattle.bit_column.specs.Column.{bytes_for}
use Rattle.bit_column.specs.Sections.{IsPart, Readable, end_byte, first_byte, section}
use Rattle.bit_column.specs.declared.fault.ColumnFault.{ColumnFault}
use Rattle.bit_column.specs.declared.fault.ColumnFault.TheVariants.{BadId, ReadFault}

-- the bytes of a file from one offset to another were read, each once, and are these; the file ends
-- before them where the call is refused for it
pub record ReadsPart (result : Result (Unit {0}) ColumnFault) (name : List ℕ) (from to : ℕ)
    (bytes : List ℕ) (old new : Seen) : Type 0 where
  pub part : OnOk result (IsPart old.held name from to bytes)
  pub only_reads : OnlyReads (IsErrOf result ReadFault) old new
  pub log : OnOk result (LogsOn name from to old.log new.log)
  pub log_of_fault : OnErr result (LogsUpTo name from to old.log new.log)
  pub short : IsErrOf result BadId → EndsBefore old.held name to

-- the bytes of a section between two indexes of its ids were read, each once; a range past the end
-- of the section is refused before anything is read, and one is bad just where the section has no
-- such ids
pub record ReadsRange {A : Type 0} (result : Result A ColumnFault) (place : Place)
    (width count from to : ℕ) (old new : Seen) : Type 0 where
  pub only_reads : OnlyReads (IsErrOf result ReadFault) old new
  pub log : IfOk result (λ _. LogsOn place.file (place.offset + first_byte width from)
      (place.offset + end_byte width from to) old.log new.log)
  pub log_of_fault : OnErr result (LogsUpTo place.file (place.offset + first_byte width from)
      (place.offset + end_byte width from to) old.log new.log)
  pub past : place.length < end_byte width from to → from < to → new.log ≡ old.log
  pub bad : IsErrOf result BadId → IfSome old.held (λ files.
      ¬ Readable width count from to (section files place))

-- the bytes that have the ids between two indexes were read, each once, and are these; the section
-- has them. The ids are bad, whatever their count is to be, just where it has not
pub record ReadsBytes (result : Result (Unit {0}) ColumnFault) (place : Place) (width from to : ℕ)
    (bytes : List ℕ) (old new : Seen) : Type 0 where
  pub within : OnOk result (bytes_for (to * width) ≤ place.length)
  pub number : OnOk result (length bytes ≡ bytes_for (to * width) - first_byte width from)
  pub part : OnOk result (IsPart old.held place.file (place.offset + first_byte width from)
      (place.offset + bytes_for (to * width)) bytes)
  pub reads : (count : ℕ) → ReadsRange result place width count from to old new
