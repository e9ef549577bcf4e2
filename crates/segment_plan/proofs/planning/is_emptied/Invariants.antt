use Rattle.std.proofs.Common.{◌≡◌, false}
use Rattle.std.specs.List.{list_any, range_with_len}
use Rattle.segment_plan.specs.Plan.{leaves_none}
use Rattle.segment_plan.proofs.planning.is_emptied.Given as goal

abbrev pub invariant-loop-column : goal.invariant-loop-column
invariant-loop-column l = list_any (leaves_none l.conjuncts l.head) (range_with_len 0 l.column) ≡ false
