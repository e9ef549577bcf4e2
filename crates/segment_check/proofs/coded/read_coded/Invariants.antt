use Rattle.std.proofs.Common.{ℕ, List, map}
use Rattle.std.specs.List.{All}
use Rattle.outside.specs.Seen.{OnlyReads, seen}
use Rattle.csv_text.specs.Coded.{IsCodedColumn, listed}
use Rattle.segment_build.specs.FileReads.{LogsFile}
use Rattle.segment_head.specs.Heads.{AreIn}
use Rattle.segment_check.specs.Reading.{AreColumns}
use Rattle.segment_check.proofs.Once.{ColumnsOnce}
use Rattle.segment_check.proofs.coded.read_coded.Given as goal

-- the columns so far were read
abbrev pub invariant-columns : goal.invariant-columns
invariant-columns g l = record {
  coded : All (IsCodedColumn l.read.head.rows) l.columns.items;
  columns : AreColumns (g.S.Shelf.held l.fn.shelf) l.read.head l.at (map listed l.columns.items);
  only_reads : OnlyReads ⊥ (seen g.S.Shelf l.fn.shelf) (seen g.S.Shelf l.shelf);
  log : (file : List ℕ) → AreIn file l.read.head.sections → LogsFile file (g.S.Shelf.log l.fn.shelf) (g.S.Shelf.log l.shelf);
  once : ColumnsOnce l.table l.read.head l.at (g.S.Shelf.log l.fn.shelf) (g.S.Shelf.log l.shelf);
}
