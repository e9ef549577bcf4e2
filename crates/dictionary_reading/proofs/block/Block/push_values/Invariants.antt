use Rattle.std.proofs.Common.{◌≡◌, ◌++◌, take}
use Rattle.value_ids.specs.Coding.{values_at}
use Rattle.value_ids.specs.Dictionary.{Distinct}
use Rattle.dictionary_reading.specs.InFile.{IsBlockOf}
use Rattle.dictionary_reading.proofs.block.Block.push_values.Given as goal

abbrev pub invariant-ids : goal.invariant-ids
invariant-ids l = (d : Distinct) → IsBlockOf d l.self → l.values.items ≡ l.fn.values.items ++ values_at d.values (take l.id-index l.ids)
