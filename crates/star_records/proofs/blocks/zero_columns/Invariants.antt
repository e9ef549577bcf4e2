use Rattle.std.proofs.Common.{◌≡◌, ◌<◌, ℕ, [], true, false, length, get_or}
use Rattle.star_records.specs.Folding.{AllZero}
use Rattle.star_records.proofs.blocks.zero_columns.Given as goal

abbrev pub invariant-loop-i : goal.invariant-loop-i
invariant-loop-i l = record {
  lengths : length l.zeros.items ≡ l.i;
  zero : (k : ℕ) → k < l.i → get_or l.zeros.items k false ≡ true → AllZero (get_or l.columns k []);
}
