use Rattle.std.proofs.Common.{◌≡◌}
use Rattle.state_columns.specs.Columns.{pushed}
use Rattle.state_columns.proofs.EachSteps.{stepped}
use Rattle.state_columns.proofs.column_list.push_states.Given as goal

abbrev pub invariant-loop-i : goal.invariant-loop-i
invariant-loop-i l = l.columns ≡ stepped pushed l.i l.initial.columns l.states
