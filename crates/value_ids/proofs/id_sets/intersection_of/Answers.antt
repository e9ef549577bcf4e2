use Rattle.std.proofs.Common.{get_or, sym, ◌∙◌, refl, subst}
use Rattle.std.specs.List.Sorted.{IsStrictlySortedBy}
use Rattle.std.specs.Ordering.{nat_cmp}
use Rattle.value_ids.specs.Ids.{AreThose, is_in_both}
use Rattle.value_ids.proofs.SetLemmas.{share_above, share_end, share_no, share_yes}
use Rattle.value_ids.proofs.id_sets.intersection_of.Goals as goal

pub push-requires : goal.push-requires
push-requires c =
    share_above c.as_slice-list.result.now c.args.b.now c.loop-id.ids c.loop-id.id-index (get_or c.as_slice-list.result.now c.loop-id.id-index 0)
    (subst (IsStrictlySortedBy nat_cmp) (sym c.as_slice-list.ensures.same) c.as_slice-list.ensures.valid.ascends) c.loop-id-test.true refl c.loop-id.invariant

pub loop-id-preserved-then-not-contains : goal.loop-id-preserved-then-not-contains
loop-id-preserved-then-not-contains c =
    share_no c.as_slice-list.result.now c.args.b.now c.loop-id.ids c.loop-id.id-index (get_or c.as_slice-list.result.now c.loop-id.id-index 0) c.loop-id-test.true refl
    (sym c.contains.ensures ∙ c.if-not-contains.true) c.loop-id.invariant

pub loop-id-preserved : goal.loop-id-preserved
loop-id-preserved c =
    share_yes c.as_slice-list.result.now c.args.b.now c.loop-id.ids c.push.new.self c.loop-id.id-index (get_or c.as_slice-list.result.now c.loop-id.id-index 0) c.loop-id-test.true refl
    (sym c.contains.ensures ∙ c.if-not-contains.false) c.loop-id.invariant c.in_ok-push.ensures.ok

pub returns : goal.returns
returns c =
    subst (λ a. AreThose (is_in_both a c.args.b.now) c.loop-id.ids) c.as_slice-list.ensures.same (share_end c.as_slice-list.result.now c.args.b.now c.loop-id.ids c.loop-id.id-index c.loop-id-test.false c.loop-id.invariant)
