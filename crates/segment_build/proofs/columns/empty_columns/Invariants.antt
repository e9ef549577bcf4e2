use Rattle.std.proofs.Common.{take}
use Rattle.std.specs.List.{All}
use Rattle.values.specs.Columns.{Counts}
use Rattle.segment_build.specs.RowColumns.{OfFields}
use Rattle.segment_build.proofs.columns.empty_columns.Given as goal

abbrev pub invariant-loop-field : goal.invariant-loop-field
invariant-loop-field l = OfFields (take l.field-index l.fields) l.columns.items × All (Counts 0) l.columns.items
