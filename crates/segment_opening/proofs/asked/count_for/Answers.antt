use Rattle.std.proofs.Common.{◌≡◌, ◌∙◌, Some, length, slice_get, sym, ap, arith}
use Rattle.std.proofs.lemmas.Option.{slice_get-get_or}
use Rattle.segment_opening.proofs.AskedLemmas.{count_past}
use Rattle.segment_opening.proofs.asked.count_for.Goals as goal

pub loop-at-preserved : goal.loop-at-preserved
loop-at-preserved c =
    let conjuncts = c.args.conjuncts.now in
    let at = c.loop-at.at in
    let x = c.index-conjuncts-at.result in
    let lt = c.loop-at-test.true in
    let long = c.requires in
    c.loop-at.invariant
    ∙ count_past conjuncts c.args.found.now at c.args.column x (slice_get-get_or conjuncts at x lt ∙ ap Some (sym c.index-conjuncts-at.is)) (omega (arith, lt, long)) (sym c.is_on.ensures ∙ c.if-is_on.false)
