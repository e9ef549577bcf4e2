use Rattle.std.proofs.Common.{drop}
use Rattle.outside.specs.Seen.{seen}
use Rattle.index_reader.proofs.SortedSteps.{SortedStep}
use Rattle.index_reader.proofs.sorted.docs_of_runs.Given as goal

abbrev pub invariant-loop-run : goal.invariant-loop-run
invariant-loop-run g l = SortedStep l.size.count l.size.rows l.place l.runs (drop l.run-index l.runs) (seen g.S.Shelf l.fn.shelf) (seen g.S.Shelf l.shelf) l.end l.docs
