use Rattle.std.proofs.Common.{ℕ, List, take}
use Rattle.std.specs.List.{AllZip}
use Rattle.outside.specs.Seen.{OnlyReads, seen}
use Rattle.segment_head.specs.Heads.{AreIn}
use Rattle.segment_reads.specs.Logs.{DictionariesEnd, EndsBy, LogsThat}
use Rattle.segment_opening.specs.Found.{IsFoundFor}
use Rattle.segment_opening.proofs.found.find_each.Given as goal

-- what was found for the conjuncts so far
abbrev pub invariant-conjuncts : goal.invariant-conjuncts
invariant-conjuncts g l = record {
  found : AllZip (IsFoundFor l.query l.table (g.S.Shelf.held l.fn.shelf) l.head) (take l.at l.query.conjuncts) l.found.items;
  reads : OnlyReads ⊥ (seen g.S.Shelf l.fn.shelf) (seen g.S.Shelf l.shelf);
  log : (file : List ℕ) (end : ℕ) → AreIn file l.head.sections → DictionariesEnd l.table l.head end → LogsThat (EndsBy file end) (g.S.Shelf.log l.fn.shelf) (g.S.Shelf.log l.shelf);
}
