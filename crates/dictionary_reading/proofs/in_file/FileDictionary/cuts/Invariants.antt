use Rattle.std.proofs.Common.{◌≡◌, ◌*◌, length, take}
use Rattle.outside.specs.Seen.{OnlyReads, seen}
use Rattle.dictionary_reading.specs.Bounds.{AreCutsFrom}
use Rattle.dictionary_reading.specs.InFile.{LogsInside, OfDictionary}
use Rattle.dictionary_reading.proofs.in_file.FileDictionary.cuts.Given as goal

abbrev pub invariant-bounds : goal.invariant-bounds
invariant-bounds g l = record {
  reads : OnlyReads ⊥ (seen g.S.Shelf l.fn.shelf) (seen g.S.Shelf l.shelf);
  each : length l.cuts.items ≡ l.bound-index;
  cut : OfDictionary l.self (g.S.Shelf.held l.fn.shelf) (λ d. AreCutsFrom 0 (take l.bound-index l.bounds) l.cuts.items d.values);
  log : LogsInside l.self.place (10920 * l.bound-index) (g.S.Shelf.log l.fn.shelf) (g.S.Shelf.log l.shelf);
}
