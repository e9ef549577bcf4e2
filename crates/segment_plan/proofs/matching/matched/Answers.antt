use Rattle.std.proofs.Common.{◌≡◌, ◌≢◌, ◌∙◌, ap, length, sym, arith}
use Rattle.std.proofs.lemmas.Bool.{eqb-false, eqb-true}
use Rattle.segment_plan.proofs.Counted.{matched_shared, none_named}
use Rattle.segment_plan.proofs.matching.matched.Goals as goal

pub returns-then-is_empty : goal.returns-then-is_empty
returns-then-is_empty c =
    let none : length c.as_slice-sets.result.now ≡ 0 = eqb-true (length c.as_slice-sets.result.now) 0 (sym c.if-is_empty.ensures) in
    c.count.ensures.count ∙ none_named c.args.conjuncts.now c.args.column c.args.dictionary.now.values (ap length (sym (c.as_slice-sets.ensures.value ∙ c.in_ok-sets.ensures)) ∙ none)

pub returns : goal.returns
returns c =
    let some : length c.as_slice-sets.result.now ≢ 0 = eqb-false (length c.as_slice-sets.result.now) 0 (sym c.if-is_empty.ensures) in
    c.count_shared.ensures ∙ matched_shared c.args.conjuncts.now c.args.column c.args.dictionary.now.values c.as_slice-sets.result.now (c.as_slice-sets.ensures.value ∙ c.in_ok-sets.ensures) (omega (arith, some))
