use Rattle.std.proofs.Common.{◌≡◌, map, pos, take}
use Rattle.values.specs.declared.value.Value.TheVariants.{Whole}
use Rattle.segment_opening.proofs.asked.values_of.Given as goal

abbrev pub invariant-ids : goal.invariant-ids
invariant-ids l = l.values ≡ map (λ id. Whole (pos id)) (take l.id-index l.ids)
