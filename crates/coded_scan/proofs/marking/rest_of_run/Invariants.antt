use Rattle.std.proofs.Common.{◌≡◌, ◌<◌, ◌≤◌, ◌+◌, ◌-◌, ◌^◌, ℕ, cond, get_or, length}
use Rattle.std.specs.Int.{bit_at}
use Rattle.coded_columns.specs.Ids.{seen_ids}
use Rattle.coded_scan.specs.Marks.{is_between}
use Rattle.coded_scan.proofs.marking.rest_of_run.Given as goal

abbrev pub invariant-loop-at : goal.invariant-loop-at
invariant-loop-at l = record {
  within : l.at - l.from ≤ length (seen_ids l.ids) - l.from;
  small : l.word < 2 ^ (l.at - l.from);
  marks : (j : ℕ) → j < l.at - l.from → bit_at l.word j ≡ cond (is_between l.first (l.first + l.more) (get_or (seen_ids l.ids) (l.from + j) 0)) 1 0;
}
