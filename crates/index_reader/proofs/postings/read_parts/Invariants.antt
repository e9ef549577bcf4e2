use Rattle.std.proofs.Common.{drop}
use Rattle.outside.specs.Seen.{seen}
use Rattle.index_reader.proofs.PostingSteps.{PartsStep}
use Rattle.index_reader.proofs.postings.read_parts.Given as goal

abbrev pub invariant-loop-run : goal.invariant-loop-run
invariant-loop-run g l = PartsStep l.size.count l.size.rows l.place l.runs (drop l.run-index l.runs) (seen g.S.Shelf l.fn.shelf) (seen g.S.Shelf l.shelf) l.end l.parts.items
