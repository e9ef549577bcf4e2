use Rattle.std.proofs.Common.{◌∙◌, ap, arith, inl, inr}
use Rattle.std.proofs.lemmas.Bool.{cases_eq}
use Rattle.coded_scan.proofs.MarkSteps.{both-none}
use Rattle.std.specs.Prelude.{get_or}
use Rattle.coded_scan.proofs.words.has_mark.Goals as goal

pub loop-at-preserved : goal.loop-at-preserved
loop-at-preserved c = λ none j lt.
    let apart = both-none _ _ none in
    elim (cases_eq j c.loop-at.at) [
      | inl e ↦ ap (λ k. get_or c.args.words.now k 0) e ∙ apart.1
      | inr ne ↦ c.loop-at.invariant apart.0 j (omega (arith, lt, ne))
    ]
