use Rattle.std.proofs.Common.{◌≡◌, ◌≤◌, length, take}
use Rattle.values.specs.Columns.{rows_of}
use Rattle.scan_engine.specs.Places.{rows_at}
use Rattle.scan_engine.specs.Scanned.{selected}
use Rattle.scan_engine.proofs.places.selected_places.Given as goal

abbrev pub invariant-loop-at : goal.invariant-loop-at
invariant-loop-at l = record {
  rows : rows_at l.block.columns.now.columns l.places.items ≡ selected l.query (take l.at (rows_of l.block.columns.now));
  count : length l.places.items ≤ l.at;
}
