use Rattle.std.proofs.Common.{◌≡◌, length, take}
use Rattle.std.specs.List.{filter}
use Rattle.segment_plan.specs.Matched.{is_in_all}
use Rattle.segment_plan.proofs.matching.count_shared.Given as goal

abbrev pub invariant-loop-id : goal.invariant-loop-id
invariant-loop-id l = l.count ≡ length (filter (is_in_all l.others) (take l.id-index l.id-items))
