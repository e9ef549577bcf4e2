use Rattle.std.proofs.Common.{◌≡◌, ◌≤◌, ◌-◌, ◌*◌, length, map, take}
use Rattle.outside.specs.Seen.{OnlyReads, seen}
use Rattle.values.specs.declared.value.Value.TheVariants as value
use Rattle.dictionary_reading.specs.InFile.{LogsInside, OfDictionary}
use Rattle.dictionary_reading.proofs.in_file.FileDictionary.all_numbers.Given as goal

abbrev pub invariant-pieces : goal.invariant-pieces
invariant-pieces g l = record {
  reads : OnlyReads ⊥ (seen g.S.Shelf l.fn.shelf) (seen g.S.Shelf l.shelf);
  within : l.done ≤ l.self.count;
  count : length l.numbers.items ≡ l.done;
  listed : OfDictionary l.self (g.S.Shelf.held l.fn.shelf) (λ d. map value.Whole l.numbers.items ≡ take l.done d.values);
  log : LogsInside l.self.place (8 * l.done) (g.S.Shelf.log l.fn.shelf) (g.S.Shelf.log l.shelf);
}

abbrev pub decreases-pieces : goal.decreases-pieces
decreases-pieces g l = l.self.count - l.done
