use Rattle.std.proofs.Common.{◌&&◌, List, ℕ, arith, not, subst, sym}
use Rattle.doc_lists.specs.Docs.{has_doc}
use Rattle.doc_lists.specs.Marks.{marked_docs}
use Rattle.doc_lists.specs.Sets.{AreThose}
use Rattle.doc_lists.proofs.SetSteps.{set_those}
use Rattle.doc_lists.proofs.WordSteps.{whole_back}
use Rattle.doc_lists.proofs.doc_set.without.Goals as goal

pub returns : goal.returns
returns c =
    let a = c.args.a.now in
    let b = c.args.b.now in
    let ours = c.in_ok-marks.marks in
    let new = c.take_marks.new.marks in
    let back = whole_back ours.len new ours.items (omega (arith, c.take_marks.auto.marks, c.deref_mut.ensures.len)) (omega (arith, c.take_marks.auto.marks, c.deref_mut.ensures.len)) in
    subst (λ (words : List ℕ). AreThose (λ doc. has_doc a doc && not (has_doc b doc)) (marked_docs words)) (sym back)
    (set_those (λ p q. p && not q) a b ours.items c.in_ok-others.others.items c.deref_mut.result.now c.as_slice.result.now new c.deref_mut.ensures.value c.as_slice.ensures.value c.in_ok-marks.ensures c.in_ok-others.ensures c.take_marks.ensures)
