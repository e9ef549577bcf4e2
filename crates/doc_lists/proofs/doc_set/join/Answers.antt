use Rattle.std.proofs.Common.{◌∙◌, ◌||◌, List, ℕ, arith, subst, sym}
use Rattle.doc_lists.specs.Docs.{has_doc}
use Rattle.doc_lists.specs.Marks.{is_marked, marked_docs}
use Rattle.doc_lists.specs.Sets.{AreThose}
use Rattle.doc_lists.proofs.SetSteps.{or_swap, set_those}
use Rattle.doc_lists.proofs.WordSteps.{whole_back}
use Rattle.doc_lists.proofs.doc_set.join.Goals as goal

pub returns-then-len : goal.returns-then-len
returns-then-len c =
    let a = c.args.a.now in
    let b = c.args.b.now in
    let theirs = c.in_ok-theirs.theirs in
    let new = c.add_marks.new.marks in
    let back = whole_back theirs.len new theirs.items (omega (arith, c.add_marks.auto.marks, c.deref_mut.ensures.len)) (omega (arith, c.add_marks.auto.marks, c.deref_mut.ensures.len)) in
    subst (λ (words : List ℕ). AreThose (λ doc. has_doc a doc || has_doc b doc) (marked_docs words)) (sym back)
    (set_those (λ p q. q || p) b a theirs.items c.in_ok-ours.ours.items c.deref_mut.result.now c.as_slice.result.now new c.deref_mut.ensures.value c.as_slice.ensures.value c.in_ok-theirs.ensures c.in_ok-ours.ensures
    (λ doc. c.add_marks.ensures doc ∙ or_swap (is_marked c.deref_mut.result.now doc) (is_marked c.as_slice.result.now doc)))

pub returns : goal.returns
returns c =
    let a = c.args.a.now in
    let b = c.args.b.now in
    let ours = c.in_ok-ours.ours in
    let new = c.add_marks-2.new.marks in
    let back = whole_back ours.len new ours.items (omega (arith, c.add_marks-2.auto.marks, c.deref_mut-2.ensures.len)) (omega (arith, c.add_marks-2.auto.marks, c.deref_mut-2.ensures.len)) in
    subst (λ (words : List ℕ). AreThose (λ doc. has_doc a doc || has_doc b doc) (marked_docs words)) (sym back)
    (set_those (λ p q. p || q) a b ours.items c.in_ok-theirs.theirs.items c.deref_mut-2.result.now c.as_slice-2.result.now new c.deref_mut-2.ensures.value c.as_slice-2.ensures.value c.in_ok-ours.ensures c.in_ok-theirs.ensures c.add_marks-2.ensures)
