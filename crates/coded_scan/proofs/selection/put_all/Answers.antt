use Rattle.std.proofs.Common.{◌≡◌, ◌∙◌, ◌+◌, ◌++◌, ◌∷◌, [], ℕ, List, true, length, ap, sym, arith}
use Rattle.std.proofs.lemmas.List.{take_all, take_more_set}
use Rattle.coded_scan.specs.RowFilters.{passing}
use Rattle.coded_scan.proofs.RowFilterLemmas.{passing-more}
use Rattle.coded_scan.proofs.selection.put_all.Goals as goal

pub loop-at-preserved : goal.loop-at-preserved
loop-at-preserved c =
    let from : ℕ = c.args.from in
    let at : ℕ = c.loop-at.at in
    take_more_set c.loop-at.out at (from + at) (omega (arith, c.loop-at-test.true, c.loop-at.auto.out))
    ∙ ap (λ (l : List ℕ). l ++ (from + at) ∷ []) c.loop-at.invariant
    ∙ sym (passing-more (λ at. true) from at)

pub returns : goal.returns
returns c =
    let all : c.loop-at.at ≡ length c.args.out.now = omega (arith, c.loop-at.auto.at-end, c.loop-at-test.false) in
    sym (take_all c.loop-at.at c.loop-at.out (omega (arith, c.loop-at-test.false, c.loop-at.auto.out))) ∙ c.loop-at.invariant ∙ ap (passing (λ at. true) c.args.from) all
