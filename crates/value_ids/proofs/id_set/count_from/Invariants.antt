use Rattle.std.proofs.Common.{◌≡◌, ◌<◌, ◌≤◌, ◌+◌, ◌-◌, ℕ, get_or}
use Rattle.value_ids.proofs.id_set.count_from.Given as goal

abbrev pub invariant-loop-at : goal.invariant-loop-at
invariant-loop-at l = record {
  before : (k : ℕ) → k < l.start → get_or l.ids k 0 ≡ get_or l.fn.ids k 0;
  counted : (k : ℕ) → l.start ≤ k → k < l.at → get_or l.ids k 0 ≡ l.first + (k - l.start);
}
