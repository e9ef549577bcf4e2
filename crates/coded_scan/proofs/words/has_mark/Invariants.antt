use Rattle.std.proofs.Common.{◌≡◌, ◌<◌, ℕ, get_or}
use Rattle.coded_scan.proofs.words.has_mark.Given as goal

abbrev pub invariant-loop-at : goal.invariant-loop-at
invariant-loop-at l = l.all ≡ 0 → (j : ℕ) → j < l.at → get_or l.words j 0 ≡ 0
