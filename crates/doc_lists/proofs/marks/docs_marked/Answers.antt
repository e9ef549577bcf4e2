use Rattle.std.proofs.Common.{◌*◌, subst, refl, arith}
use Rattle.doc_lists.specs.Marks.{is_marked}
use Rattle.doc_lists.specs.Sets.{Swept}
use Rattle.doc_lists.proofs.MarkSteps.{word_marks}
use Rattle.doc_lists.proofs.MarkedDocs.{swept_marked}
use Rattle.doc_lists.proofs.marks.docs_marked.Goals as goal

pub loop-i-preserved : goal.loop-i-preserved
loop-i-preserved c =
    let marks = c.args.marks.now in
    let i = c.loop-i.i in
    subst (λ n. Swept (is_marked marks) n c.push_marked.new.docs) (omega arith)
    (c.in_ok-push_marked.ensures (is_marked marks) c.loop-i.invariant (λ k lt. word_marks marks i (64 * i) k refl lt))

pub returns : goal.returns
returns c = swept_marked c.args.marks.now c.loop-i.i c.loop-i.docs (omega (arith, c.loop-i-test.false)) c.loop-i.invariant
