use Rattle.std.proofs.Common.{◌≡◌, ◌<◌, ℕ, None, false, get_or, length, take}
use Rattle.outside.specs.Seen.{OnlyReads, seen}
use Rattle.doc_lists.specs.Docs.{docs_of}
use Rattle.column_reader.specs.Bytes.{GrowsBy, most_bytes}
use Rattle.column_reader.specs.Picked.{IsPicked, LogsPicked}
use Rattle.outside.specs.Series.{LogsTo}
use Rattle.column_reader.proofs.picking.pick_columns.Given as goal

abbrev pub invariant-loop-column : goal.invariant-loop-column
invariant-loop-column g l = record {
  count : length l.all.items ≡ l.column;
  ids : (column : ℕ) → column < l.column → IsPicked (g.S.Shelf.held l.fn.shelf) l.head column (docs_of l.runs) (get_or l.named column false) (get_or l.all.items column None);
  only_reads : OnlyReads ⊥ (seen g.S.Shelf l.fn.shelf) (seen g.S.Shelf l.shelf);
  bytes : GrowsBy (most_bytes (take l.column l.named) (docs_of l.runs)) (g.S.Shelf.log l.fn.shelf) (g.S.Shelf.log l.shelf);
  log : LogsTo (LogsPicked l.head l.runs l.named) l.column (g.S.Shelf.log l.fn.shelf) (g.S.Shelf.log l.shelf);
}
