use Rattle.std.proofs.Common.{◌≡◌}
use Rattle.state_columns.proofs.EachSteps.{widened_first}
use Rattle.state_columns.proofs.column_list.reserve_columns.Given as goal

abbrev pub invariant-loop-i : goal.invariant-loop-i
invariant-loop-i l = l.columns ≡ widened_first l.more l.i l.initial.columns
