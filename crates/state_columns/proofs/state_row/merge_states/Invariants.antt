use Rattle.std.proofs.Common.{◌≡◌}
use Rattle.state_columns.proofs.RowPlaces.{mixed}
use Rattle.state_columns.proofs.state_row.merge_states.Given as goal

abbrev pub invariant-loop-i : goal.invariant-loop-i
invariant-loop-i l = l.into ≡ mixed l.i l.initial.into l.from
