use Rattle.std.proofs.Common.{◌≡◌, ◌<◌, ◌≤◌, ◌+◌, arith, get_or, refl, subst, sym}
use Rattle.std.specs.List.Sorted.{IsStrictlySortedBy}
use Rattle.std.specs.Ordering.{nat_cmp}
use Rattle.value_ids.specs.Ids.{AreThose, is_outside}
use Rattle.value_ids.proofs.RunLemmas.{leave_end, leave_run}
use Rattle.value_ids.proofs.SetLemmas.{pass_above}
use Rattle.value_ids.proofs.id_sets.complement_of.Goals as goal

pub push_run-requires : goal.push_run-requires
push_run-requires c = λ _. pass_above (is_outside c.args.count c.as_slice-list.result.now) c.loop-id.next c.loop-id.outside c.loop-id.invariant.passed

pub push_run-requires-2 : goal.push_run-requires-2
push_run-requires-2 c = λ _. pass_above (is_outside c.args.count c.as_slice-list.result.now) c.loop-id.next c.loop-id.outside c.loop-id.invariant.passed

pub loop-id-preserved : goal.loop-id-preserved
loop-id-preserved c =
    let list = c.as_slice-list.result.now in
    let id = get_or list c.loop-id.id-index 0 in
    let low : id ≤ c.saturating_add-next.result = let small = c.type_inv.list c.loop-id.id-index in omega (arith, c.saturating_add-next.ensures, small) in
    let high : c.saturating_add-next.result ≤ id + 1 = omega (arith, c.saturating_add-next.ensures) in
    let one : c.saturating_add-next.result < c.args.count → c.saturating_add-next.result ≡ id + 1 = λ lt. omega (arith, c.saturating_add-next.ensures, lt, c.ranges.count.fits) in
    leave_run c.args.count list c.loop-id.id-index c.loop-id.next id c.min.result c.saturating_add-next.result c.loop-id.outside c.push_run.new.self
    (subst (IsStrictlySortedBy nat_cmp) (sym c.as_slice-list.ensures.same) c.as_slice-list.ensures.valid.ascends) c.loop-id-test.true refl c.min.ensures low high one c.loop-id.invariant c.in_ok-push_run.ensures.ok

pub returns : goal.returns
returns c =
    subst (λ ids. AreThose (is_outside c.args.count ids) c.push_run-2.new.self) c.as_slice-list.ensures.same
    (leave_end c.args.count c.as_slice-list.result.now c.loop-id.id-index c.loop-id.next c.loop-id.outside c.push_run-2.new.self
    (subst (IsStrictlySortedBy nat_cmp) (sym c.as_slice-list.ensures.same) c.as_slice-list.ensures.valid.ascends) c.loop-id-test.false c.loop-id.invariant c.in_ok-push_run-2.ensures.ok)
