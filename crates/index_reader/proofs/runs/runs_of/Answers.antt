use Rattle.std.proofs.Common.{◌<◌, All, get_or, subst, sym}
use Rattle.std.specs.List.Sorted.{IsStrictlySortedBy}
use Rattle.std.specs.Ordering.{nat_cmp}
use Rattle.index_reader.proofs.RunLemmas.{above_taken}
use Rattle.index_reader.proofs.runs.runs_of.Goals as goal

pub push-requires : goal.push-requires
push-requires c =
    let ids = c.as_slice-ids.result.now in
    let i = c.loop-id.id-index in
    subst (All (λ other. other < get_or ids i 0)) (sym c.loop-id.invariant)
    (above_taken ids i (subst (IsStrictlySortedBy nat_cmp) (sym c.as_slice-ids.ensures.same) c.as_slice-ids.ensures.valid.ascends) c.loop-id-test.true)
