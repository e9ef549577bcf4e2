use Rattle.std.proofs.Common.{◌≡◌, ◌<◌, ℕ, true, false, List, get_or}
use Rattle.outside.specs.Seen.{OnlyReads, seen}
use Rattle.segment_head.specs.Heads.{AreIn, IsLoaded}
use Rattle.segment_reads.specs.Logs.{DictionariesEnd, EndsBy, LogsThat}
use Rattle.segment_opening.specs.Opened.{Grows}
use Rattle.segment_opening.proofs.loading.load_marked.Given as goal

abbrev pub invariant-columns : goal.invariant-columns
invariant-columns g l = record {
  grows : Grows l.table (g.S.Shelf.held l.fn.shelf) l.fn.head l.head;
  loaded : (k : ℕ) → k < l.column → get_or l.marks k false ≡ true → IsLoaded l.head k;
  reads : OnlyReads ⊥ (seen g.S.Shelf l.fn.shelf) (seen g.S.Shelf l.shelf);
  log : (file : List ℕ) (end : ℕ) → AreIn file l.fn.head.sections → DictionariesEnd l.table l.fn.head end → LogsThat (EndsBy file end) (g.S.Shelf.log l.fn.shelf) (g.S.Shelf.log l.shelf);
}
