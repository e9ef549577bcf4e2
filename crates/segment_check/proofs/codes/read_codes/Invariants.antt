use Rattle.std.proofs.Common.{◌≡◌, ℕ, List, map}
use Rattle.outside.specs.Seen.{OnlyReads, seen}
use Rattle.segment_build.specs.Coded.{decoded}
use Rattle.segment_build.specs.FileReads.{LogsFile}
use Rattle.segment_head.specs.Heads.{AreIn}
use Rattle.segment_check.specs.Reading.{AreColumns}
use Rattle.segment_check.proofs.IdLemmas.{AreRead}
use Rattle.segment_check.proofs.Once.{ColumnsOnce}
use Rattle.segment_check.proofs.codes.read_codes.Given as goal

-- the columns so far were read
abbrev pub invariant-columns : goal.invariant-columns
invariant-columns g l = record {
  read : AreRead l.table l.at l.columns.items;
  columns : AreColumns (g.S.Shelf.held l.fn.shelf) l.read.head l.at (map decoded l.columns.items);
  only_reads : OnlyReads ⊥ (seen g.S.Shelf l.fn.shelf) (seen g.S.Shelf l.shelf);
  log : (file : List ℕ) → AreIn file l.read.head.sections → LogsFile file (g.S.Shelf.log l.fn.shelf) (g.S.Shelf.log l.shelf);
  once : ColumnsOnce l.table l.read.head l.at (g.S.Shelf.log l.fn.shelf) (g.S.Shelf.log l.shelf);
}
