use Rattle.std.proofs.Common.{ℕ, List}
use Rattle.outside.specs.Seen.{OnlyReads, seen}
use Rattle.segment_head.specs.Heads.{AreIn}
use Rattle.segment_reads.specs.Logs.{DictionariesEnd, EndsBy, LogsThat}
use Rattle.segment_opening.proofs.emptied.is_emptied.Given as goal

abbrev pub invariant-conjuncts : goal.invariant-conjuncts
invariant-conjuncts g l = record {
  reads : OnlyReads ⊥ (seen g.S.Shelf l.fn.shelf) (seen g.S.Shelf l.shelf);
  log : (file : List ℕ) (end : ℕ) → AreIn file l.head.sections → DictionariesEnd l.table l.head end → LogsThat (EndsBy file end) (g.S.Shelf.log l.fn.shelf) (g.S.Shelf.log l.shelf);
}
