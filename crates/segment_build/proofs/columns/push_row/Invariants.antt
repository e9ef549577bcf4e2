use Rattle.std.proofs.Common.{◌≡◌, take}
use Rattle.values.specs.Columns.{row_pushed}
use Rattle.segment_build.proofs.columns.push_row.Given as goal

abbrev pub invariant-values : goal.invariant-values
invariant-values l = l.columns ≡ row_pushed l.fn.columns (take l.at l.row)
