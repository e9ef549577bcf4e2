use Rattle.std.proofs.Common.{◌≡◌, ◌∙◌, ◌+◌, ◌*◌, ◌||◌, ℕ, Bool, get_or, length, bit_or, subst, sym, arith, le_refl}
use Rattle.std.proofs.lemmas.List.{get_or-set_other}
use Rattle.coded_columns.specs.Ids.{seen_ids}
use Rattle.coded_scan.specs.Marks.{HasMarks, is_between, is_marked}
use Rattle.coded_scan.proofs.MarkSteps.{either-word, word-marked}
use Rattle.coded_scan.proofs.marking.add_run.Goals as goal

pub loop-at-preserved : goal.loop-at-preserved
loop-at-preserved c =
    let many : ℕ = length (seen_ids c.args.ids) in
    let other : ℕ → Bool = λ row. is_between c.args.first (c.args.first + c.args.more) (get_or (seen_ids c.args.ids) row 0) in
    let at : ℕ = c.loop-at.at in
    let old = c.args.words.now in
    let words = c.loop-at.words in
    let here : get_or words at 0 ≡ get_or old at 0 = c.loop-at.invariant.left at (le_refl at) in
    record {
      done = λ holds are. word-marked (is_marked many (λ row. holds row || other row)) words at (bit_or (get_or words at 0) c.run_word.result) (omega (arith, c.loop-at-test.true, c.loop-at.auto.words))
          (either-word many holds other (64 * at) (get_or words at 0) c.run_word.result
          (subst (HasMarks (is_marked many holds) (64 * at)) (sym here) (are.each at (omega (arith, c.loop-at-test.true, c.loop-at.auto.words)))) c.run_word.ensures)
          (c.loop-at.invariant.done holds are);
      left = λ j le. get_or-set_other words at j _ 0 (λ e. absurd (omega (arith, e, le))) ∙ c.loop-at.invariant.left j (omega (arith, le));
    }

pub returns : goal.returns
returns c = λ holds are. record {
  enough = omega (arith, are.enough, c.loop-at.auto.words);
  each = λ j lt. c.loop-at.invariant.done holds are j (omega (arith, lt, c.loop-at-test.false));
}
