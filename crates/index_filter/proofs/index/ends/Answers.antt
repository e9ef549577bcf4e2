use Rattle.std.proofs.Common.{◌<◌, ◌-◌, List, ℕ, length, ap, subst, sym, arith}
use Rattle.std.proofs.lemmas.Map.Keys.{non_decreasing_from_sorted}
use Rattle.std.specs.List.Sorted.{IsStrictlySortedBy}
use Rattle.std.specs.Ordering.{nat_cmp}
use Rattle.segment_plan.specs.RowsLeft.{first_of, last_of}
use Rattle.index_filter.proofs.index.ends.Goals as goal

pub returns-in-len1-up : goal.returns-in-len1-up
returns-in-len1-up c =
    let same = c.as_slice-ids.ensures.same in
    let ids : List ℕ = c.as_slice-ids.result.now in
    let some : 0 < length ids = omega (arith, c.in-len1-up.len_at_least) in (
      ap first_of same,
      ap last_of same,
      non_decreasing_from_sorted ids (subst (IsStrictlySortedBy nat_cmp) (sym same) c.as_slice-ids.ensures.valid.ascends) 0 (length ids - 1) 0 (omega arith) (omega (arith, some)),
      omega (arith, some, ap length same),
    )
