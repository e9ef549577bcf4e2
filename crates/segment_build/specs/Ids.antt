-- The ids of a column's rows as they are kept.
use Rattle.std.specs.Prelude.{ℕ, List}
use Rattle.segment_build.specs.declared.column_ids.IdsHeld.{IdsHeld}
use Rattle.segment_build.specs.declared.column_ids.IdsHeld.TheVariants as kept

-- the ids that are kept so
abbrev pub ids_held : IdsHeld → List ℕ
ids_held (kept.Alone ids) = ids
ids_held (kept.Packed ids) = ids
