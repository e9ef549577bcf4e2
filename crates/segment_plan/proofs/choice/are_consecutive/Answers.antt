use Rattle.std.proofs.Common.{◌∙◌, ap, subst, sym}
use Rattle.std.specs.List.Sorted.{IsStrictlySortedBy}
use Rattle.std.specs.Ordering.{nat_cmp}
use Rattle.segment_plan.specs.Choices.{are_consecutive}
use Rattle.segment_plan.proofs.Ends.{ends_up, ends_tell}
use Rattle.segment_plan.proofs.choice.are_consecutive.Goals as goal

pub overflow_sub-result-in-len1-up : goal.overflow_sub-result-in-len1-up
overflow_sub-result-in-len1-up c =
    ends_up c.as_slice-ids.result.now (subst (IsStrictlySortedBy nat_cmp) (sym c.as_slice-ids.ensures.same) c.as_slice-ids.ensures.valid.ascends)

pub returns-in-len1-up : goal.returns-in-len1-up
returns-in-len1-up c =
    ends_tell c.as_slice-ids.result.now (subst (IsStrictlySortedBy nat_cmp) (sym c.as_slice-ids.ensures.same) c.as_slice-ids.ensures.valid.ascends) c.in-len1-up.len_at_least
    ∙ ap are_consecutive c.as_slice-ids.ensures.same
