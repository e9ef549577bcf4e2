use Rattle.std.proofs.Common.{◌≡◌, ◌≤◌, ◌+◌, ◌-◌, ◌++◌, drop, length, map, take}
use Rattle.value_ids.specs.Dictionary.{Distinct}
use Rattle.values.specs.declared.value.Value.TheVariants as value
use Rattle.dictionary_reading.specs.InFile.{IsBlockOf}
use Rattle.dictionary_reading.proofs.block.Block.push_numbers.Given as goal

abbrev pub invariant-ids : goal.invariant-ids
invariant-ids l = record {
  low : l.self.from ≤ l.id;
  high : l.id ≤ l.self.to;
  count : length l.numbers.items ≡ length l.fn.numbers.items + (l.id - l.self.from);
  numbers : (d : Distinct) → IsBlockOf d l.self → map value.Whole l.numbers.items ≡ map value.Whole l.fn.numbers.items ++ take (l.id - l.self.from) (drop l.self.from d.values);
}
