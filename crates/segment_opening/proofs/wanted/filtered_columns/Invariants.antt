use Rattle.std.proofs.Common.{◌≡◌, ◌<◌, ℕ, false, get_or, length}
use Rattle.segment_plan.specs.Matched.{is_filtered}
use Rattle.segment_opening.proofs.wanted.filtered_columns.Given as goal

abbrev pub invariant-loop-column : goal.invariant-loop-column
invariant-loop-column l = record {
  count : length l.marks.items ≡ l.column;
  each : (column : ℕ) → column < l.column → get_or l.marks.items column false ≡ is_filtered l.query.conjuncts column;
}
