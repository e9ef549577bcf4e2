use Rattle.std.proofs.Common.{◌≤◌, ◌-◌, ◌*◌, ℕ}
use Rattle.outside.specs.Seen.{OnlyReads, seen}
use Rattle.dictionary_reading.specs.InFile.{LogsInside, OfDictionary}
use Rattle.value_ids.proofs.Halving.{Halved}
use Rattle.dictionary_reading.proofs.CutLemmas.{Probed}
use Rattle.dictionary_reading.proofs.in_file.FileDictionary.cut.Given as goal

abbrev pub invariant-halves : goal.invariant-halves
invariant-halves g l = record {
  reads : OnlyReads ⊥ (seen g.S.Shelf l.fn.shelf) (seen g.S.Shelf l.shelf);
  order : l.low ≤ l.high;
  within : l.high ≤ l.self.count;
  halved : OfDictionary l.self (g.S.Shelf.held l.fn.shelf) (λ d. Halved d.values l.bound l.low l.high);
  probes : ℕ;
  probed : Probed l.self.count l.low l.high probes;
  log : LogsInside l.self.place (520 * probes) (g.S.Shelf.log l.fn.shelf) (g.S.Shelf.log l.shelf);
}

abbrev pub decreases-halves : goal.decreases-halves
decreases-halves g l = l.high - l.low
