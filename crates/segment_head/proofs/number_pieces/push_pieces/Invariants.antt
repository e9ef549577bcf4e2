use Rattle.std.proofs.Common.{◌+◌, ◌-◌, ◌*◌, map}
use Rattle.outside.specs.Reads.{LogsThrough}
use Rattle.outside.specs.Seen.{OnlyReads, seen}
use Rattle.values.specs.declared.value.Value.TheVariants.{Whole}
use Rattle.segment_head.proofs.PieceLemmas.{PiecesRead}
use Rattle.segment_head.proofs.number_pieces.push_pieces.Given as goal

abbrev pub invariant-pieces : goal.invariant-pieces
invariant-pieces g l = record {
  read : PiecesRead l.kind (g.S.Shelf.held l.fn.shelf) l.place l.done l.count (map Whole l.numbers.items);
  only_reads : OnlyReads ⊥ (seen g.S.Shelf l.fn.shelf) (seen g.S.Shelf l.shelf);
  log : LogsThrough l.place.file (l.place.offset + 4) (l.place.offset + 4 + 8 * l.done) (g.S.Shelf.log l.fn.shelf) (g.S.Shelf.log l.shelf);
}

abbrev pub decreases-pieces : goal.decreases-pieces
decreases-pieces g l = l.count - l.done
