-- What the fault of a column is for the answer of a segment.
use Rattle.std.specs.Prelude.{◌≡◌, ℕ}
use Rattle.bit_column.specs.declared.fault.ColumnFault.{ColumnFault}
use Rattle.bit_column.specs.declared.fault.ColumnFault.TheVariants as columns
use Rattle.segment_file.specs.declared.part.Part.TheVariants.{Forward}
use Rattle.segment_head.specs.declared.fault.EngineFault.{EngineFault}
use Rattle.segment_head.specs.declared.fault.EngineFault.TheVariants.{NotASegment, ReadFault, NoMemory, TooManyGroups}

-- what the fault of a column is for a scan
abbrev pub fault_of : ColumnFault → ℕ → EngineFault
fault_of columns.ReadFault column = ReadFault
fault_of columns.BadId column = NotASegment (Forward column)
fault_of columns.NoMemory column = NoMemory

-- a fault that the reading of a column may have: of a file's parts it names the forward section
-- alone
abbrev pub IsFaultOf : ℕ → EngineFault → Type 0
IsFaultOf column TooManyGroups = ⊥
IsFaultOf column (NotASegment part) = part ≡ Forward column
IsFaultOf column ReadFault = Unit {0}
IsFaultOf column NoMemory = Unit {0}
