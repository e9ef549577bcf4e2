use Rattle.star_records.proofs.blocks.is_zero.Given as goal
use Rattle.std.proofs.Common.{◌≡◌, ◌<◌, ℕ, pos, get_or}

abbrev pub invariant-loop-i : goal.invariant-loop-i
invariant-loop-i l = (k : ℕ) → k < l.i → get_or l.numbers k (pos 0) ≡ pos 0
