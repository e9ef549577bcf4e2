use Rattle.std.proofs.Common.{◌∙◌, ◌+◌, arith, subst, sym}
use Rattle.doc_lists.specs.Marks.{SweepsMarks}
use Rattle.doc_lists.proofs.MarkedSweep.{Looked, looked_no, looked_none, looked_yes}
use Rattle.doc_lists.proofs.sets.push_marked_from.Goals as goal
use Rattle.doc_lists.proofs.sets.push_marked_from.Goals.{then-is_marked+in_ok-push, else-is_marked}

pub loop-doc-init : goal.loop-doc-init
loop-doc-init c = looked_none c.args.first c.args.marks.now c.args.docs.now c.requires.above

pub loop-doc-preserved : goal.loop-doc-preserved
loop-doc-preserved c =
    let first = c.args.first in
    let doc = c.loop-doc.doc in
    let marks = c.args.marks.now in
    let old = c.args.docs.now in
    elim c.if-is_marked.branch [
      | then-is_marked+in_ok-push w ↦ looked_yes first doc marks old c.loop-doc.docs c.if-is_marked.docs c.loop-doc.invariant (sym c.is_marked.ensures ∙ w.if-is_marked.true) (w.docs-is ∙ w.in_ok-push.ensures.ok)
      | else-is_marked w ↦ subst (λ ds. Looked first (doc + 1) marks old ds) (sym w.docs-is) (looked_no first doc marks old c.loop-doc.docs c.loop-doc.invariant (sym c.is_marked.ensures ∙ w.if-is_marked.false))
    ]

pub returns : goal.returns
returns c =
    let at = c.loop-doc.auto in
    subst (λ n. SweepsMarks c.args.first n c.args.marks.now c.args.docs.now c.loop-doc.docs) (omega (arith, c.loop-doc-test.false, at.doc-end, c.requires.order)) c.loop-doc.invariant.sweeps
