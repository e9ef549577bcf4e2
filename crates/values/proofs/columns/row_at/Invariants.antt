use Rattle.std.proofs.Common.{◌≡◌, take}
use Rattle.values.specs.Columns.{row_of}
use Rattle.values.proofs.columns.row_at.Given as goal

abbrev pub invariant-loop-column : goal.invariant-loop-column
invariant-loop-column l = l.row ≡ row_of (take l.column-index l.columns) l.at
