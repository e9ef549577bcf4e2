use Rattle.std.proofs.Common.{length, ap, arith}
use Rattle.segment_plan.specs.Matched.{is_in_all}
use Rattle.segment_plan.proofs.Counted.{count_few}
use Rattle.segment_plan.proofs.matching.count_shared.Goals as goal

pub overflow_add-count : goal.overflow_add-count
overflow_add-count c =
    let at_most = c.as_slice-id-items.ensures.valid.at_most in
    let same = ap length c.as_slice-id-items.ensures.same in
    let lt = c.loop-id-test.true in
    let counted = count_few (is_in_all c.after_first-others.result.now) c.as_slice-id-items.result.now c.loop-id.id-index (omega (arith, lt)) in
    let is = c.loop-id.invariant in
    omega (arith, at_most, same, lt, counted, is)
