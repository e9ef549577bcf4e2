use Rattle.std.proofs.Common.{◌≡◌, ◌<◌, ℕ, false, get_or, length}
use Rattle.segment_plan.specs.Named.{query_names}
use Rattle.segment_plan.specs.Served.{rest_of}
use Rattle.segment_plan.proofs.named.named_columns.Given as goal

abbrev pub invariant-loop-column : goal.invariant-loop-column
invariant-loop-column l = record {
  count : length l.named.items ≡ l.column;
  each : (column : ℕ) → column < l.column → get_or l.named.items column false ≡ query_names (rest_of l.query l.choices) column;
}
