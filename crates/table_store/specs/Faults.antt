-- What a fault of a device is for a store.
use Rattle.outside.specs.declared.shelf.ShelfFault.{ShelfFault}
use Rattle.outside.specs.declared.shelf.ShelfFault.TheVariants as shelf
use Rattle.table_store.specs.declared.fault.StoreFault.{StoreFault}
use Rattle.table_store.specs.declared.fault.StoreFault.TheVariants.{NoMemory, NoTable, ReadFault}

-- the fault of a look at the table's file
abbrev pub of_shelf : ShelfFault → StoreFault
of_shelf shelf.Missing = NoTable
of_shelf shelf.Failed = ReadFault
of_shelf shelf.NoMemory = NoMemory
