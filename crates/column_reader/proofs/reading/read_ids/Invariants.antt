use Rattle.std.proofs.Common.{◌*◌, ◌≤◌, min}
use Rattle.outside.specs.Seen.{seen}
use Rattle.coded_columns.specs.Ids.{IsNarrow, ids_in}
use Rattle.column_reader.proofs.BlockSteps.{BlockStep}
use Rattle.column_reader.proofs.reading.read_ids.Given as goal

abbrev pub invariant-loop-at : goal.invariant-loop-at
invariant-loop-at g l = record {
  step : BlockStep l.place l.width l.count (min (l.at * 32768) l.rows) (seen g.S.Shelf l.fn.shelf) (seen g.S.Shelf l.shelf) (ids_in l.room);
  narrow : IsNarrow l.room → l.width ≤ 16;
}
