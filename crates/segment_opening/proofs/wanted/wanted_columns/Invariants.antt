use Rattle.std.proofs.Common.{◌≡◌, ◌<◌, ℕ, false, get_or, length}
use Rattle.segment_opening.specs.Wanted.{is_keyed}
use Rattle.segment_opening.proofs.wanted.wanted_columns.Given as goal

abbrev pub invariant-loop-column : goal.invariant-loop-column
invariant-loop-column l = record {
  count : length l.marks.items ≡ l.column;
  each : (column : ℕ) → column < l.column → get_or l.marks.items column false ≡ is_keyed l.query column;
}
