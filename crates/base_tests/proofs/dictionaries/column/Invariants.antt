use Rattle.std.proofs.Common.{◌≤◌, length}
use Rattle.std.specs.List.{All}
use Rattle.value_ids.specs.Dictionary.{Fits}
use Rattle.base_tests.proofs.dictionaries.column.Given as goal

abbrev pub invariant-loop-cell : goal.invariant-loop-cell
invariant-loop-cell l = (length l.column ≤ 1000) × All (Fits l.kind) l.column
