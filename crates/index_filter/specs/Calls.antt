-- What a call reads of the indexes of a segment, and when it refuses a part of the segment's file.
use Rattle.std.specs.Prelude.{◌≡◌, ◌≤◌, List, Option, Result, Err, IfOk, IsErrOf, OnErr}
use Rattle.outside.specs.Reads.{Entry}
use Rattle.outside.specs.Seen.{OnlyReads, Seen}
use Rattle.segment_file.specs.declared.part.Part.{Part}
use Rattle.segment_head.specs.Heads as heads
use Rattle.coded_columns.specs.Coded.{most_rows}
use Rattle.segment_head.specs.declared.fault.EngineFault.{EngineFault}
use Rattle.segment_head.specs.declared.fault.EngineFault.TheVariants.{NotASegment, ReadFault, TooManyGroups}

-- a segment of no more rows than one may have, of which this is ready
pub record HasReady (head : heads.Seen) (Ready : Type 0) : Type 0 where
  pub rows : head.rows ≤ most_rows
  pub ready : Ready

-- where the call answers, its reads are all of these, and where it is refused, some of them; it
-- refuses a part only where that is bad, and adds no groups
pub record ReadsIndexes {A : Type 0} (result : Result A EngineFault) (Bad : Part → Type 0)
    (Reads Partly : Option (List Entry) → Option (List Entry) → Type 0) (old new : Seen)
    : Type 0 where
  pub bad : (part : Part) → result ≡ Err (NotASegment part) → Bad part
  pub full : ¬ IsErrOf result TooManyGroups
  pub only_reads : OnlyReads (IsErrOf result ReadFault) old new
  pub log : IfOk result (λ _. Reads old.log new.log)
  pub log_of_fault : OnErr result (Partly old.log new.log)
