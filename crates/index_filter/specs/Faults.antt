-- What the fault of an index is for the answer of a segment.
use Rattle.index_reader.specs.declared.fault.ListFault.{ListFault}
use Rattle.index_reader.specs.declared.fault.ListFault.TheVariants as lists
use Rattle.segment_file.specs.declared.part.Part.{Part}
use Rattle.segment_head.specs.declared.fault.EngineFault.{EngineFault}
use Rattle.segment_head.specs.declared.fault.EngineFault.TheVariants.{NotASegment, ReadFault, NoMemory}

-- what the fault of an index is for a scan, by its section
abbrev pub list_fault : ListFault → Part → EngineFault
list_fault lists.ReadFault part = ReadFault
list_fault lists.BadList part = NotASegment part
list_fault lists.NoMemory part = NoMemory
