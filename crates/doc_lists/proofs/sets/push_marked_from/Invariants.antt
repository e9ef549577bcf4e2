use Rattle.doc_lists.proofs.MarkedSweep.{Looked}
use Rattle.doc_lists.proofs.sets.push_marked_from.Given as goal

abbrev pub invariant-loop-doc : goal.invariant-loop-doc
invariant-loop-doc l = Looked l.first l.doc l.marks l.fn.docs l.docs
