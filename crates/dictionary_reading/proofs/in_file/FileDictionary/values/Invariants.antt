use Rattle.std.proofs.Common.{◌≡◌, ◌≤◌, ◌-◌, ◌*◌, length, take}
use Rattle.outside.specs.Seen.{OnlyReads, seen}
use Rattle.value_ids.specs.Coding.{values_at}
use Rattle.dictionary_reading.specs.InFile.{LogsInside, OfDictionary}
use Rattle.dictionary_reading.proofs.in_file.FileDictionary.values.Given as goal

abbrev pub invariant-blocks-2 : goal.invariant-blocks-2
invariant-blocks-2 g l = record {
  reads : OnlyReads ⊥ (seen g.S.Shelf l.fn.shelf) (seen g.S.Shelf l.shelf);
  within : l.done ≤ length l.ids;
  listed : OfDictionary l.self (g.S.Shelf.held l.fn.shelf) (λ d. l.values.items ≡ values_at d.values (take l.done l.ids));
  log : LogsInside l.self.place (528388 * l.done) (g.S.Shelf.log l.fn.shelf) (g.S.Shelf.log l.shelf);
}

abbrev pub decreases-blocks-2 : goal.decreases-blocks-2
decreases-blocks-2 g l = length l.ids - l.done
