-- The ids of the rows of a column in two or in four bytes each.
use Rattle.std.specs.Prelude.{ℕ, List}
use Rattle.row_ids.specs.declared.row_ids.IdRoom.{IdRoom}
use Rattle.row_ids.specs.declared.row_ids.IdRoom.TheVariants as room

-- the ids that lie there
abbrev pub ids_in : IdRoom → List ℕ
ids_in (room.Narrow ids) = ids.items
ids_in (room.Wide ids) = ids.items
