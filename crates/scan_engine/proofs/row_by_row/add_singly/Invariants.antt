use Rattle.std.proofs.Common.{take}
use Rattle.scan_engine.specs.Places.{rows_at}
use Rattle.scan_engine.specs.Scanned.{AddsRows}
use Rattle.group_table.specs.Pooled.{StaysIn, in_pool}
use Rattle.scan_engine.proofs.row_by_row.add_singly.Given as goal

abbrev pub invariant-loop-place : goal.invariant-loop-place
invariant-loop-place l = record {
  adds : AddsRows l.query l.place-index (rows_at l.block.columns.now.columns (take l.place-index l.places))
      (in_pool l.fn.table l.fn.pool) (in_pool l.table l.pool);
  stays : StaysIn l.fn.table l.fn.pool l.table l.pool;
}
