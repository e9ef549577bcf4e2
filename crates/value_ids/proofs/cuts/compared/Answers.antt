use Rattle.std.proofs.Common.{ℕ, IfOk, length, subst, sym}
use Rattle.values.specs.declared.test.CompareOp.{CompareOp}
use Rattle.values.specs.declared.test.CompareOp.TheVariants as op
use Rattle.values.specs.Order.{value_order}
use Rattle.values.specs.Tests.{op_holds}
use Rattle.value_ids.specs.Ids.{AreThose, Picks, is_outside, is_within}
use Rattle.value_ids.proofs.MatchLemmas.{at_least_run, at_most_run, equal_run, if_ok, less_run, more_run, unequal_run}
use Rattle.value_ids.proofs.cuts.compared.Goals as goal

pub returns-in-Equal : goal.returns-in-Equal
returns-in-Equal c =
    subst (λ (k : CompareOp). IfOk c.range_of.result (Picks (λ value. op_holds k (value_order value c.args.bound.now)) c.args.ascending.values.now)) (sym c.in-Equal.is)
    (if_ok c.range_of.result (AreThose (is_within c.cut_at-from.result.from c.cut_at-from.result.to)) (Picks (λ value. op_holds op.Equal (value_order value c.args.bound.now)) c.args.ascending.values.now)
    (equal_run c.args.ascending.values.now c.args.bound.now c.cut_at-from.result.from c.cut_at-from.result.to c.cut_at-from.ensures) c.range_of.ensures)

pub returns-in-Less : goal.returns-in-Less
returns-in-Less c =
    subst (λ (k : CompareOp). IfOk c.range_of-in-Less.result (Picks (λ value. op_holds k (value_order value c.args.bound.now)) c.args.ascending.values.now)) (sym c.in-Less.is)
    (if_ok c.range_of-in-Less.result (AreThose (is_within 0 c.cut_at-from.result.from)) (Picks (λ value. op_holds op.Less (value_order value c.args.bound.now)) c.args.ascending.values.now)
    (less_run c.args.ascending.values.now c.args.bound.now c.cut_at-from.result.from c.cut_at-from.result.to c.cut_at-from.ensures) c.range_of-in-Less.ensures)

pub returns-in-AtMost : goal.returns-in-AtMost
returns-in-AtMost c =
    subst (λ (k : CompareOp). IfOk c.range_of-in-AtMost.result (Picks (λ value. op_holds k (value_order value c.args.bound.now)) c.args.ascending.values.now)) (sym c.in-AtMost.is)
    (if_ok c.range_of-in-AtMost.result (AreThose (is_within 0 c.cut_at-from.result.to)) (Picks (λ value. op_holds op.AtMost (value_order value c.args.bound.now)) c.args.ascending.values.now)
    (at_most_run c.args.ascending.values.now c.args.bound.now c.cut_at-from.result.from c.cut_at-from.result.to c.cut_at-from.ensures) c.range_of-in-AtMost.ensures)

pub returns-in-More : goal.returns-in-More
returns-in-More c =
    subst (λ (k : CompareOp). IfOk c.range_of-in-More.result (Picks (λ value. op_holds k (value_order value c.args.bound.now)) c.args.ascending.values.now)) (sym c.in-More.is)
    (if_ok c.range_of-in-More.result (AreThose (is_within c.cut_at-from.result.to (length c.args.ascending.values.now))) (Picks (λ value. op_holds op.More (value_order value c.args.bound.now)) c.args.ascending.values.now)
    (more_run c.args.ascending.values.now c.args.bound.now c.cut_at-from.result.from c.cut_at-from.result.to c.cut_at-from.ensures)
    (subst (λ (n : ℕ). IfOk c.range_of-in-More.result (AreThose (is_within c.cut_at-from.result.to n))) c.len-count.ensures c.range_of-in-More.ensures))

pub returns-in-AtLeast : goal.returns-in-AtLeast
returns-in-AtLeast c =
    subst (λ (k : CompareOp). IfOk c.range_of-in-AtLeast.result (Picks (λ value. op_holds k (value_order value c.args.bound.now)) c.args.ascending.values.now)) (sym c.in-AtLeast.is)
    (if_ok c.range_of-in-AtLeast.result (AreThose (is_within c.cut_at-from.result.from (length c.args.ascending.values.now))) (Picks (λ value. op_holds op.AtLeast (value_order value c.args.bound.now)) c.args.ascending.values.now)
    (at_least_run c.args.ascending.values.now c.args.bound.now c.cut_at-from.result.from c.cut_at-from.result.to c.cut_at-from.ensures)
    (subst (λ (n : ℕ). IfOk c.range_of-in-AtLeast.result (AreThose (is_within c.cut_at-from.result.from n))) c.len-count.ensures c.range_of-in-AtLeast.ensures))

pub returns-in_ok-range_of-in-Unequal : goal.returns-in_ok-range_of-in-Unequal
returns-in_ok-range_of-in-Unequal c =
    subst (λ (k : CompareOp). IfOk c.complement_of-in-Unequal.result (Picks (λ value. op_holds k (value_order value c.args.bound.now)) c.args.ascending.values.now)) (sym c.in-Unequal.is)
    (if_ok c.complement_of-in-Unequal.result (AreThose (is_outside (length c.args.ascending.values.now) c.in_ok-range_of-in-Unequal.field-0)) (Picks (λ value. op_holds op.Unequal (value_order value c.args.bound.now)) c.args.ascending.values.now)
    (λ new. unequal_run c.args.ascending.values.now c.args.bound.now c.cut_at-from.result.from c.cut_at-from.result.to c.in_ok-range_of-in-Unequal.field-0 new c.cut_at-from.ensures c.in_ok-range_of-in-Unequal.ensures)
    (subst (λ (n : ℕ). IfOk c.complement_of-in-Unequal.result (AreThose (is_outside n c.in_ok-range_of-in-Unequal.field-0))) c.len-count.ensures c.complement_of-in-Unequal.ensures))
