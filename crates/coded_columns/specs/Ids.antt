-- The ids of rows in room of two or of four bytes each.
use Rattle.std.specs.Prelude.{◌<◌, ℕ, List}
use Rattle.coded_columns.specs.declared.ids.IdRoom.{IdRoom}
use Rattle.coded_columns.specs.declared.ids.IdRoom.TheVariants as room
use Rattle.coded_columns.specs.declared.ids.IdSlices.{IdSlices}
use Rattle.coded_columns.specs.declared.ids.IdSlices.TheVariants as slices

-- the ids that were added
abbrev pub ids_in : IdRoom → List ℕ
ids_in (room.Narrow ids) = ids
ids_in (room.Wide ids) = ids.items

-- the ids where they lie
abbrev pub seen_ids : IdSlices → List ℕ
seen_ids (slices.Narrow ids) = ids.now
seen_ids (slices.Wide ids) = ids.now

-- an id below this takes two bytes
abbrev pub most_narrow : ℕ
most_narrow = 65536

-- there is room for the id
abbrev pub HasRoom : IdRoom → ℕ → Type 0
HasRoom (room.Narrow ids) id = id < most_narrow
HasRoom (room.Wide ids) id = Unit {0}

-- each id takes two bytes
abbrev pub IsNarrow : IdRoom → Type 0
IsNarrow (room.Narrow ids) = Unit {0}
IsNarrow (room.Wide ids) = ⊥
