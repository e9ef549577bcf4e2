-- A store inside a program, and the state that its depot stands for.
use Rattle.std.specs.Prelude.{IsSomeAnd}
use Rattle.outside.specs.Seen.{Seen, seen}
use Rattle.outside.specs.declared.shelf.Shelf as shelf
use Rattle.table_schema.specs.declared.table.Table.{Table}
use Rattle.table_store.specs.Accepted.{IsAccepted}
use Rattle.table_store.specs.Stands.{Stands}
use Rattle.table_store.specs.State.{HasTable, Segments, State, Texts}

-- a table, and the depot that it and its segments are in
pub record StoreOf (D : Type 0) : Type 0 where
  pub table : Table
  pub depot : D

-- the same through what the depot tells
pub record SeenStore : Type 0 where
  pub table : Table
  pub depot : Seen

-- a store on any depot, seen through the members of the depot's trait
abbrev pub store_seen : {A : Type 0} → shelf.Ghosts A → StoreOf A → SeenStore
store_seen D store = record { table = store.table; depot = seen D store.depot }

-- a table beside a depot
abbrev pub over : Table → Seen → SeenStore
over table depot = record { table = table; depot = depot }

-- a depot tells its files, and they are just those of this state
abbrev pub IsState : Seen → State → Type 0
IsState depot state = IsSomeAnd depot.held (λ files. Stands files state)

-- the depot tells its files, and they are just those of the table with these segments
abbrev pub Keeps : SeenStore → Segments → Type 0
Keeps store segments = IsSomeAnd store.depot.held (λ files. (texts : Texts)
    × IsAccepted texts store.table × Stands files (HasTable texts segments))
