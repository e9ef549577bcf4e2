use Rattle.std.proofs.Common.{arith, inl, inr, length}
use Rattle.std.proofs.lemmas.Bool.{cases_lt}
use Rattle.doc_lists.proofs.WordSteps.{without_all, without_left, without_more}
use Rattle.doc_lists.proofs.marks.take_marks.Goals as goal

pub loop-at-preserved : goal.loop-at-preserved
loop-at-preserved c =
    let old = c.args.marks.now in
    let others = c.args.others.now in
    let marks = c.loop-at.marks in
    let at = c.loop-at.at in
    let known = c.loop-at.invariant in record {
      done = λ j lt. without_more old others marks at j (omega (arith, c.loop-at-test.true, c.min-at-end.ensures, c.loop-at.auto.marks)) (omega (arith, c.type_inv.others at)) (known.left at (omega arith)) (known.done j) lt;
      left = λ j le. without_left old marks at j _ (known.left j (omega (arith, le))) le;
    }

pub returns : goal.returns
returns c =
    let old = c.args.marks.now in
    let others = c.args.others.now in
    without_all old others c.loop-at.marks c.min-at-end.result
    (elim (cases_lt (length old) (length others)) [
      | inl lt ↦ inl (omega (arith, c.min-at-end.ensures, lt))
      | inr ge ↦ inr (omega (arith, c.min-at-end.ensures, ge))
    ])
    (λ j lt. c.loop-at.invariant.done j (omega (arith, lt, c.loop-at-test.false)))
    (λ j le. c.loop-at.invariant.left j (omega (arith, le, c.loop-at.auto.at-end)))
