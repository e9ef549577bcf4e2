use Rattle.std.proofs.Common.{take}
use Rattle.outside.specs.Seen.{OnlyReads, seen}
use Rattle.index_filter.specs.Indexes.{HasUnsure, Leaves, LogsAt}
use Rattle.outside.specs.Series.{LogsTo}
use Rattle.segment_plan.specs.RowsLeft.{indexed}
use Rattle.index_filter.proofs.candidates.documents.Given as goal

abbrev pub invariant-loop-at : goal.invariant-loop-at
invariant-loop-at g l = record {
  docs : Leaves (g.S.Shelf.held l.fn.shelf) l.head l.choices l.conjuncts (indexed l.choices (take l.at l.conjuncts)) l.docs;
  unsure : HasUnsure (g.S.Shelf.held l.fn.shelf) l.head l.choices l.conjuncts l.at l.unsure;
  only_reads : OnlyReads ⊥ (seen g.S.Shelf l.fn.shelf) (seen g.S.Shelf l.shelf);
  log : LogsTo (LogsAt (g.S.Shelf.held l.fn.shelf) l.head l.choices l.conjuncts) l.at (g.S.Shelf.log l.fn.shelf) (g.S.Shelf.log l.shelf);
}
