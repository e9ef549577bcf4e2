use Rattle.std.proofs.Common.{◌≡◌, ◌∙◌, ◌++◌, ◌∷◌, ◌<◌, [], ℕ, ℤ, List, length, get_or, take, ap, sym, arith}
use Rattle.std.proofs.lemmas.List.{take_more}
use Rattle.star_rows.specs.Numbers.{numbers_of}
use Rattle.star_records.proofs.SlotDocs as steps
use Rattle.star_records.proofs.slot_docs.fold_columns.Goals as goal

pub loop-at-preserved : goal.loop-at-preserved
loop-at-preserved c =
    let kinds = c.args.kinds.now in
    let metrics : List (List ℤ) = c.args.metrics.now in
    let at : ℕ = c.loop-at.at in
    let numbers : List ℤ = numbers_of c.at-numbers.result in
    let lt : at < length metrics = omega (arith, c.requires.metrics, c.loop-at-test.true) in
    let is : numbers ≡ get_or metrics at numbers = c.at-numbers.ensures in
    steps.hold-step c.args.count c.args.slots.now kinds metrics at c.loop-at.columns.items
    c.push.new.self.items _ numbers c.in_ok-fold_column.field-0
    (take_more kinds at _ c.loop-at-test.true)
    (take_more metrics at numbers lt ∙ ap (λ (m : List ℤ). take at metrics ++ m ∷ []) (sym is))
    c.loop-at.invariant c.in_ok-fold_column.ensures.states c.in_ok-fold_column.ensures.whole
    c.in_ok-push.ensures.items
