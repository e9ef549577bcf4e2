use Rattle.std.proofs.Common.{ℕ, List, length}
use Rattle.scan_engine.specs.Scanned.{AddsRows}
use Rattle.coded_columns.specs.Keyed.{HoldsKeys}
use Rattle.coded_columns.specs.Slots.{before_slot}
use Rattle.coded_scan.specs.Passed.{passed, passed_rows}
use Rattle.group_table.specs.Pooled.{StaysIn, in_pool}
use Rattle.coded_scan.proofs.merging.merge_keys.Given as goal

abbrev pub invariant-loop-key : goal.invariant-loop-key
invariant-loop-key l = record {
  keys : List ℕ;
  holds : HoldsKeys l.rows.segment.now l.query.groups l.query.aggs keys (passed l.rows) l.keyed;
  adds : AddsRows l.query (length (before_slot l.key keys (passed_rows l.rows))) (before_slot l.key keys (passed_rows l.rows)) (in_pool l.fn.table l.fn.pool) (in_pool l.table l.pool);
  stays : StaysIn l.fn.table l.fn.pool l.table l.pool;
}
