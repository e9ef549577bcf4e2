use Rattle.std.proofs.Common.{◌∙◌, ◌&&◌, ap, arith}
use Rattle.doc_lists.specs.Marks.{is_marked}
use Rattle.doc_lists.proofs.WordSteps.{and_cut, whole_back}
use Rattle.doc_lists.proofs.marks.keep_both.Goals as goal

pub returns-clause-those : goal.returns-clause-those
returns-clause-those c = λ doc.
    let old = c.args.marks.now.items in
    let others = c.args.others.now in
    let cut = c.truncate.new.self.items in
    let new = c.keep_marks.new.marks in
    ap (λ words. is_marked words doc) (whole_back c.truncate.new.self.len new cut (omega (arith, c.keep_marks.auto.marks, c.deref_mut.ensures.len)) (omega (arith, c.keep_marks.auto.marks, c.deref_mut.ensures.len)))
    ∙ and_cut old others new (λ d. c.keep_marks.ensures d ∙ ap (λ words. is_marked words d && is_marked others d) (c.deref_mut.ensures.value ∙ c.truncate.ensures.items)) doc
