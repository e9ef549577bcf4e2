use Rattle.std.proofs.Common.{◌<◌, ◌*◌, ℕ, get_or, length}
use Rattle.value_ids.specs.Ids.{has_id}
use Rattle.coded_scan.specs.Marks.{HasMarks, is_marked}
use Rattle.coded_scan.proofs.marking.mark_narrow.Given as goal

abbrev pub invariant-loop-at : goal.invariant-loop-at
invariant-loop-at l = (j : ℕ) → j < l.at → HasMarks (is_marked (length l.ids) (λ row. has_id l.matching (get_or l.ids row 0))) (64 * j) (get_or l.words j 0)
