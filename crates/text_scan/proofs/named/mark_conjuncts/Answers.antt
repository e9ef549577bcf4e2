use Rattle.std.proofs.Common.{arith}
use Rattle.text_scan.specs.Named.{IsTestMarked}
use Rattle.text_scan.proofs.NamedLemmas.{below-more, test-stays}
use Rattle.text_scan.proofs.named.mark_conjuncts.Goals as goal

pub conjuncts-init : goal.conjuncts-init
conjuncts-init c = λ k d lt below. absurd (omega (arith, lt))

pub conjuncts-preserved : goal.conjuncts-preserved
conjuncts-preserved c =
    let old = c.conjuncts.marks in
    let new = c.mark_conjunct.new.marks in
    below-more (IsTestMarked old) (IsTestMarked new) c.args.conjuncts.now c.conjuncts.i c.index-conjuncts-i.result (test-stays old new c.mark_conjunct.ensures.stay) c.conjuncts.invariant c.conjuncts-test.true c.index-conjuncts-i.is
    (c.mark_conjunct.ensures.marked c.if-not-mark_conjunct.false)

pub returns : goal.returns
returns c = λ _ k d lt. c.conjuncts.invariant k d (omega (arith, lt, c.conjuncts-test.false)) lt
