-- What a call reads of the forward sections of a segment.
use Rattle.std.specs.Prelude.{List, Option, Result, IfOk, IsErrOf, OnErr}
use Rattle.outside.specs.Reads.{Entry}
use Rattle.outside.specs.Seen.{OnlyReads, Seen}
use Rattle.segment_head.specs.declared.fault.EngineFault.{EngineFault}
use Rattle.segment_head.specs.declared.fault.EngineFault.TheVariants.{ReadFault}

-- where the call answers, its reads are all of these, and where it is refused, some of them
pub record ReadsSections {A : Type 0} (result : Result A EngineFault)
    (Reads : A → Option (List Entry) → Option (List Entry) → Type 0)
    (Partly : Option (List Entry) → Option (List Entry) → Type 0) (old new : Seen) : Type 0 where
  pub only_reads : OnlyReads (IsErrOf result ReadFault) old new
  pub log : IfOk result (λ answer. Reads answer old.log new.log)
  pub log_of_fault : OnErr result (Partly old.log new.log)
