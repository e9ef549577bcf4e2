use Rattle.std.proofs.Common.{drop}
use Rattle.outside.specs.Seen.{seen}
use Rattle.column_reader.proofs.PickSteps.{PickStep}
use Rattle.column_reader.proofs.column.pick_column.Given as goal

abbrev pub invariant-loop-run : goal.invariant-loop-run
invariant-loop-run g l = PickStep l.place l.width l.values l.head.rows l.runs (drop l.run-index l.runs) (seen g.S.Shelf l.fn.shelf) (seen g.S.Shelf l.shelf) l.ids.items
