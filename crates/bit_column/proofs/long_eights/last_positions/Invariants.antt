use Rattle.std.proofs.Common.{◌≡◌, ◌<◌, ◌+◌, ◌*◌, ◌/◌, ℕ, length, get_or}
use Rattle.bit_column.proofs.long_eights.last_positions.Given as goal

abbrev pub invariant-loop-k : goal.invariant-loop-k
invariant-loop-k l = record {
  long : length l.at ≡ 16;
  each : (m : ℕ) → m < l.k → get_or l.at m 0 ≡ (l.bit + m / 2 * l.width) / 8 + 2;
}
