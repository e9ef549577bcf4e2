use Rattle.std.proofs.Common.{◌+◌, ◌-◌, ◌≤◌}
use Rattle.doc_lists.proofs.WordSteps.{PartMarked}
use Rattle.doc_lists.proofs.marks.mark_run.Given as goal

abbrev pub invariant-loop-doc : goal.invariant-loop-doc
invariant-loop-doc l = record {
  within : l.doc ≤ l.fn.run.last + 1;
  marked : PartMarked l.fn.run.first l.doc l.fn.marks l.marks;
}

abbrev pub decreases-loop-doc : goal.decreases-loop-doc
decreases-loop-doc l = l.end - l.doc
