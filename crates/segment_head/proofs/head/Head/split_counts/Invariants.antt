use Rattle.std.proofs.Common.{◌≡◌, length, take}
use Rattle.outside.specs.Seen.{OnlyReads, seen}
use Rattle.segment_head.specs.Heads.{HaveCounts, LogsCounts, OfWhole}
use Rattle.segment_head.proofs.head.Head.split_counts.Given as goal

abbrev pub invariant-loop-column : goal.invariant-loop-column
invariant-loop-column g l = record {
  counts : OfWhole l.table (g.S.Shelf.held l.fn.shelf) l.self (HaveCounts (take l.column-index l.split) l.counts.items);
  number : length l.counts.items ≡ l.column-index;
  reads : OnlyReads ⊥ (seen g.S.Shelf l.fn.shelf) (seen g.S.Shelf l.shelf);
  log : LogsCounts l.self (take l.column-index l.split) (g.S.Shelf.log l.fn.shelf) (g.S.Shelf.log l.shelf);
}
