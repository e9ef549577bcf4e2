use Rattle.std.proofs.Common.{◌≡◌, ◌<◌, ℕ, false, Some, get_or, length}
use Rattle.segment_opening.specs.Wanted.{is_detailed}
use Rattle.segment_opening.proofs.wanted.tree_columns.Given as goal

abbrev pub invariant-loop-column : goal.invariant-loop-column
invariant-loop-column l = record {
  count : length l.marks.items ≡ l.column;
  each : (column : ℕ) → column < l.column → get_or l.marks.items column false ≡ is_detailed l.query (Some l.tree) column;
}
