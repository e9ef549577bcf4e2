use Rattle.std.proofs.Common.{◌<◌, ◌*◌, ℕ, get_or}
use Rattle.coded_scan.specs.Marks.{HasMarks, is_marked}
use Rattle.coded_scan.proofs.marking.mark_same.Given as goal

abbrev pub invariant-loop-at : goal.invariant-loop-at
invariant-loop-at l = (j : ℕ) → j < l.at → HasMarks (is_marked l.many (λ row. l.holds)) (64 * j) (get_or l.words j 0)
