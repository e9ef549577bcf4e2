use Rattle.std.proofs.Common.{◌≡◌, map, take}
use Rattle.state_columns.specs.Columns.{column_of}
use Rattle.state_columns.proofs.column_list.new_columns.Given as goal

abbrev pub invariant-loop-i : goal.invariant-loop-i
invariant-loop-i l = l.columns.items ≡ map column_of (take l.i l.kinds)
