use Rattle.std.proofs.Common.{◌≡◌, ◌+◌, ◌++◌, length, map, take}
use Rattle.values.specs.declared.value.Value.TheVariants as value
use Rattle.value_ids.specs.Coding.{values_at}
use Rattle.value_ids.specs.Dictionary.{Distinct}
use Rattle.dictionary_reading.specs.InFile.{IsBlockOf}
use Rattle.dictionary_reading.proofs.block.Block.push_numbers_at.Given as goal

abbrev pub invariant-ids : goal.invariant-ids
invariant-ids l = record {
  count : length l.numbers.items ≡ length l.fn.numbers.items + l.id-index;
  numbers : (d : Distinct) → IsBlockOf d l.self → map value.Whole l.numbers.items ≡ map value.Whole l.fn.numbers.items ++ values_at d.values (take l.id-index l.ids);
}
