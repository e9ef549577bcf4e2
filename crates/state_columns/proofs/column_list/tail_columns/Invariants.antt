use Rattle.std.proofs.Common.{◌≡◌, map, take}
use Rattle.state_columns.specs.Columns.{column_tail}
use Rattle.state_columns.proofs.column_list.tail_columns.Given as goal

abbrev pub invariant-loop-i : goal.invariant-loop-i
invariant-loop-i l = l.tails.items ≡ map (column_tail l.from) (take l.i l.columns)
