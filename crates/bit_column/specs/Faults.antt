-- What a fault of a device is for the reading of ids.
use Rattle.std.specs.Prelude.{◌≡◌, ◌↔◌}
use Rattle.outside.specs.declared.shelf.ShelfFault.{ShelfFault}
use Rattle.outside.specs.declared.shelf.ShelfFault.TheVariants as shelf
use Rattle.bit_column.specs.declared.fault.ColumnFault.{ColumnFault}
use Rattle.bit_column.specs.declared.fault.ColumnFault.TheVariants.{BadId, ReadFault}

-- what the fault of a shelf is for a part of a file: one that is missing has no bytes
pub record IsColumnFault (fault : ShelfFault) (own : ColumnFault) : Type 0 where
  pub missing : (own ≡ BadId) ↔ (fault ≡ shelf.Missing)
  pub failed : (own ≡ ReadFault) ↔ (fault ≡ shelf.Failed)
