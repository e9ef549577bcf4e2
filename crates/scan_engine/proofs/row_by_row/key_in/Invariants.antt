use Rattle.std.proofs.Common.{◌≡◌, take}
use Rattle.values.specs.Columns.{row_of}
use Rattle.group_table.specs.Groups.{key_of}
use Rattle.scan_engine.proofs.row_by_row.key_in.Given as goal

abbrev pub invariant-loop-column : goal.invariant-loop-column
invariant-loop-column l = l.key.items ≡ key_of (take l.column-index l.columns) (row_of l.block.columns.now.columns l.at)
