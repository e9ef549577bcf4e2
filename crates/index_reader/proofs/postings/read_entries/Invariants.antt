use Rattle.std.proofs.Common.{drop}
use Rattle.outside.specs.Seen.{seen}
use Rattle.index_reader.proofs.PostingSteps.{EntriesStep}
use Rattle.index_reader.proofs.postings.read_entries.Given as goal

abbrev pub invariant-loop-part : goal.invariant-loop-part
invariant-loop-part g l = EntriesStep l.size.count l.size.rows l.place l.parts (drop l.part-index l.parts) (seen g.S.Shelf l.fn.shelf) (seen g.S.Shelf l.shelf) l.entries.items
