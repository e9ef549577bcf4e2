use Rattle.std.proofs.Common.{take}
use Rattle.segment_build.specs.RowColumns.{AreThose}
use Rattle.segment_build.proofs.columns.filled.Given as goal

abbrev pub invariant-loop-row : goal.invariant-loop-row
invariant-loop-row l = AreThose l.fields (take l.row-index l.rows) l.columns.items
