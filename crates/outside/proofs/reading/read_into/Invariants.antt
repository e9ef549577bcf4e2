use Rattle.std.proofs.Common.{◌≤◌, ◌<◌, ◌+◌, ◌-◌, length}
use Rattle.outside.specs.Files.{Has}
use Rattle.outside.specs.Reads.{LogsOn}
use Rattle.outside.specs.Seen.{OnlyReads, seen}
use Rattle.outside.proofs.ReadLemmas.{Front}
use Rattle.outside.proofs.reading.read_into.Given as goal

abbrev pub invariant-pieces : goal.invariant-pieces
invariant-pieces g l = record {
  only_reads : OnlyReads ⊥ (seen g.S.Shelf l.fn.shelf) (seen g.S.Shelf l.shelf);
  within : l.done ≤ length l.into;
  log : LogsOn l.name l.offset (l.offset + l.done) (g.S.Shelf.log l.fn.shelf) (g.S.Shelf.log l.shelf);
  front : Front (g.S.Shelf.held l.fn.shelf) l.name l.offset l.done l.into;
  present : 0 < l.done → Has (g.S.Shelf.held l.fn.shelf) l.name;
}

abbrev pub decreases-pieces : goal.decreases-pieces
decreases-pieces g l = length l.into - l.done
