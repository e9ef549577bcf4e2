use Rattle.std.proofs.Common.{get_or, sym, ◌∙◌, refl, subst}
use Rattle.std.specs.List.Sorted.{IsPermutation, IsSorted}
use Rattle.std.specs.Ordering.{nat_cmp}
use Rattle.value_ids.proofs.SetLemmas.{gather_above, gather_end, gather_no, gather_yes}
use Rattle.value_ids.proofs.id_sets.set_of.Goals as goal

pub push-requires : goal.push-requires
push-requires c =
    gather_above c.deref-place-items.result.now c.loop-place.ids c.loop-place.place-index (get_or c.deref-place-items.result.now c.loop-place.place-index 0)
    (subst (IsSorted nat_cmp) (sym c.deref-place-items.ensures.value) c.sort_unstable.ensures.sorted) c.loop-place-test.true refl (sym c.contains.ensures ∙ c.if-contains.false) c.loop-place.invariant

pub loop-place-preserved-then-contains : goal.loop-place-preserved-then-contains
loop-place-preserved-then-contains c =
    gather_no c.deref-place-items.result.now c.loop-place.ids c.loop-place.place-index (get_or c.deref-place-items.result.now c.loop-place.place-index 0) c.loop-place-test.true refl
    (sym c.contains.ensures ∙ c.if-contains.true) c.loop-place.invariant

pub loop-place-preserved : goal.loop-place-preserved
loop-place-preserved c =
    gather_yes c.deref-place-items.result.now c.loop-place.ids c.push.new.self c.loop-place.place-index (get_or c.deref-place-items.result.now c.loop-place.place-index 0) c.loop-place-test.true refl
    c.loop-place.invariant c.in_ok-push.ensures.ok

pub returns : goal.returns
returns c =
    gather_end c.args.places.items c.deref-place-items.result.now c.loop-place.ids c.loop-place.place-index
    (subst (IsPermutation c.args.places.items) (sym c.deref-place-items.ensures.value) c.sort_unstable.ensures.permutation) c.loop-place-test.false c.loop-place.invariant
