use Rattle.std.proofs.Common.{◌≡◌, ◌<◌, ◌≤◌, ◌+◌, ◌-◌, ◌^◌, ℕ, cond, get_or, length}
use Rattle.std.specs.Int.{bit_at}
use Rattle.value_ids.specs.Ids.{has_id}
use Rattle.coded_scan.proofs.marking.narrow_word.Given as goal

abbrev pub invariant-loop-at : goal.invariant-loop-at
invariant-loop-at l = record {
  within : l.at - l.from ≤ length l.ids - l.from;
  few : l.at ≤ l.from + 64;
  small : l.word < 2 ^ (l.at - l.from);
  marks : (j : ℕ) → j < l.at - l.from → bit_at l.word j ≡ cond (has_id l.matching (get_or l.ids (l.from + j) 0)) 1 0;
}
