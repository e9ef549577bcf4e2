use Rattle.std.proofs.Common.{◌≡◌, ◌+◌, ◌==◌, ℕ, count_by, take, get_or}
use Rattle.coded_columns.proofs.counting.count_keys.Given as goal

abbrev pub invariant-loop-at : goal.invariant-loop-at
invariant-loop-at l = (key : ℕ) → get_or l.counts key 0 ≡ get_or l.fn.counts key 0 + count_by (λ k. k == key) (take l.at l.keys)
