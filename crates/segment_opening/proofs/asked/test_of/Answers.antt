use Rattle.std.proofs.Common.{◌≡◌, ◌∙◌, ◌-◌, false, true, map, pos, Some, slice_get, sym, ap, subst}
use Rattle.values.specs.declared.value.Value.TheVariants.{Whole}
use Rattle.values.specs.declared.test.Test.TheVariants.{Between}
use Rattle.values.specs.Tests.{holds}
use Rattle.segment_opening.proofs.IdsTest.{between_is, none_of_is, one_of_is}
use Rattle.segment_opening.proofs.asked.test_of.Goals as goal

pub returns-then-are_consecutive : goal.returns-then-are_consecutive
returns-then-are_consecutive c id lt =
    let ids = c.args.matched.now.ids in
    let last = c.at-then-are_consecutive.result.now in
    (λ i. holds (Whole (pos id)) (Between (c.as_value-low.ensures i) (c.as_value-high.ensures i) false))
    ∙ between_is ids c.at.result.now last id (sym c.are_consecutive.ensures ∙ c.if-are_consecutive.true) c.at.ensures
    (subst (λ n. slice_get ids (n - 1) ≡ Some last) c.len.ensures c.at-then-are_consecutive.ensures)

pub returns-then-len-matched : goal.returns-then-len-matched
returns-then-len-matched c id lt =
    none_of_is c.args.matched.now.count c.args.matched.now.ids c.in_ok-others.others c.in_ok-values_of.field-0 id lt c.in_ok-others.ensures (c.in_ok-values_of.ensures ∙ ap (map (λ n. Whole (pos n))) c.as_slice.ensures.same)

pub returns : goal.returns
returns c id lt = one_of_is c.args.matched.now.ids c.in_ok-values_of-2.field-0 id (c.in_ok-values_of-2.ensures ∙ ap (map (λ n. Whole (pos n))) c.as_slice-2.ensures.same)
