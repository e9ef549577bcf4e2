use Rattle.std.proofs.Common.{◌≡◌, ◌<◌, ℕ, None, get_or, length}
use Rattle.segment_scan.specs.Scans.{IsCodedOf}
use Rattle.segment_scan.proofs.scan.coded_columns.Given as goal

abbrev pub invariant-loop-column : goal.invariant-loop-column
invariant-loop-column l = record {
  count : length l.columns.items ≡ l.column;
  each : (column : ℕ) → column < l.column → IsCodedOf l.head column (get_or l.ids column None) (get_or l.columns.items column None);
}
