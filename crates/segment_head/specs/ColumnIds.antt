-- The ids of a column in place of its values.
use Rattle.std.specs.Prelude.{ℕ, pos, List, map}
use Rattle.std.specs.List.{range_with_len}
use Rattle.data_types.specs.declared.kind.FieldKind.TheVariants.{Long}
use Rattle.values.specs.declared.value.Value.{Value}
use Rattle.values.specs.declared.value.Value.TheVariants.{Whole}
use Rattle.value_ids.specs.Dictionary.{Distinct}
use Rattle.segment_head.specs.Heads.{Seen, with_dictionary}

-- the numbers below a count
abbrev pub numbers_below : ℕ → List Value
numbers_below count = map (λ n. Whole (pos n)) (range_with_len 0 count)

-- so many ids in place of values
abbrev pub ids_below : ℕ → Distinct
ids_below count = record { kind = Long; values = numbers_below count }

-- the head with the ids of a column, so many, in place of its values
abbrev pub with_ids : ℕ → ℕ → Seen → Seen
with_ids column count head = with_dictionary column (ids_below count) head
