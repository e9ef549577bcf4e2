use Rattle.std.proofs.Common.{◌≡◌, length, take}
use Rattle.doc_lists.specs.Docs.{docs_of}
use Rattle.doc_lists.proofs.doc_list.count_of.Given as goal

abbrev pub invariant-loop-run : goal.invariant-loop-run
invariant-loop-run l = l.count ≡ length (docs_of (take l.run-index l.runs))
