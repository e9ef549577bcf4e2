-- What a fault of a device is for a head.
use Rattle.std.specs.Prelude.{◌≡◌, ◌↔◌}
use Rattle.outside.specs.declared.shelf.ShelfFault.{ShelfFault}
use Rattle.outside.specs.declared.shelf.ShelfFault.TheVariants as shelf
use Rattle.segment_file.specs.declared.fault.HeadFault.{HeadFault}
use Rattle.segment_file.specs.declared.fault.HeadFault.TheVariants.{NoMemory, NotASegment, ReadFault}
use Rattle.segment_file.specs.declared.part.Part.TheVariants.{Head}

-- what the fault of a shelf is for a head: a file that is missing is an empty one
pub record IsHeadFault (fault : ShelfFault) (own : HeadFault) : Type 0 where
  pub missing : fault ≡ shelf.Missing → own ≡ NotASegment Head
  pub failed : (own ≡ ReadFault) ↔ (fault ≡ shelf.Failed)
  pub memory : (own ≡ NoMemory) ↔ (fault ≡ shelf.NoMemory)
