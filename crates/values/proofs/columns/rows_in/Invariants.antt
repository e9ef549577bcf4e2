use Rattle.std.proofs.Common.{◌≡◌, take}
use Rattle.values.specs.Columns.{rows_in_columns}
use Rattle.values.proofs.columns.rows_in.Given as goal

abbrev pub invariant-loop-at : goal.invariant-loop-at
invariant-loop-at l = l.rows ≡ take l.at (rows_in_columns l.count l.columns)
