use Rattle.std.proofs.Common.{◌≡◌, ◌<◌, ◌+◌, ◌*◌, ◌%◌, ◌^◌, ℕ, length, get_or}
use Rattle.bit_column.proofs.eights.factors_from.Given as goal

abbrev pub invariant-loop-k : goal.invariant-loop-k
invariant-loop-k l = record {
  long : length l.by ≡ 8;
  each : (i : ℕ) → i < l.k → get_or l.by i 0 ≡ 2 ^ ((l.bit + i * l.width) % 8);
}
