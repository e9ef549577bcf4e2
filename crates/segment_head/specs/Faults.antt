-- What the fault of a head is for the answer of its segment.
use Rattle.segment_file.specs.declared.fault.HeadFault.{HeadFault}
use Rattle.segment_file.specs.declared.fault.HeadFault.TheVariants as head
use Rattle.segment_head.specs.declared.fault.EngineFault.{EngineFault}
use Rattle.segment_head.specs.declared.fault.EngineFault.TheVariants as engine

-- what the fault of a head is for the answer of its segment
abbrev pub fault_of : HeadFault → EngineFault
fault_of (head.NotASegment part) = engine.NotASegment part
fault_of head.ReadFault = engine.ReadFault
fault_of head.NoMemory = engine.NoMemory
