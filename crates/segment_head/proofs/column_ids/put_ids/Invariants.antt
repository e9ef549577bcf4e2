use Rattle.std.proofs.Common.{◌≡◌, ◌<◌, ℕ, get_or, length, pos}
use Rattle.segment_head.proofs.column_ids.put_ids.Given as goal

abbrev pub invariant-loop-at : goal.invariant-loop-at
invariant-loop-at l = record {
  same : length l.numbers ≡ length l.fn.numbers;
  each : (k : ℕ) → k < l.at → get_or l.numbers k (pos 0) ≡ pos k;
}
