use Rattle.std.proofs.Common.{◌-◌, ◌^◌, ◌&&◌, []}
use Rattle.doc_lists.specs.Docs.{has_doc}
use Rattle.doc_lists.specs.Marks.{is_marked}
use Rattle.doc_lists.proofs.Sweep.{Walk}
use Rattle.doc_lists.proofs.sets.marked.Given as goal

abbrev pub invariant-loop-ours : goal.invariant-loop-ours
invariant-loop-ours l = Walk (λ doc. has_doc l.a doc && is_marked l.marks doc) l.start l.a [] l.docs l.ours []

abbrev pub decreases-loop-ours : goal.decreases-loop-ours
decreases-loop-ours l = 2 ^ 32 - l.start
