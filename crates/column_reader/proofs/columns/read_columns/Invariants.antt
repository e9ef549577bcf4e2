use Rattle.std.proofs.Common.{◌≡◌, ◌<◌, ℕ, None, false, get_or, length}
use Rattle.outside.specs.Seen.{OnlyReads, seen}
use Rattle.column_reader.specs.Forward.{IsRead, LogsColumns}
use Rattle.column_reader.proofs.columns.read_columns.Given as goal

abbrev pub invariant-loop-column : goal.invariant-loop-column
invariant-loop-column g l = record {
  count : length l.all.items ≡ l.column;
  ids : (column : ℕ) → column < l.column → IsRead (g.S.Shelf.held l.fn.shelf) l.head column (get_or l.named column false) (get_or l.all.items column None);
  only_reads : OnlyReads ⊥ (seen g.S.Shelf l.fn.shelf) (seen g.S.Shelf l.shelf);
  log : LogsColumns l.head l.named l.column (g.S.Shelf.log l.fn.shelf) (g.S.Shelf.log l.shelf);
}
