use Rattle.std.proofs.Common.{◌≡◌, ◌<◌, ◌≤◌, ◌+◌, ◌*◌, ◌||◌, ℕ, Bool, get_or, length}
use Rattle.coded_columns.specs.Ids.{seen_ids}
use Rattle.coded_scan.specs.Marks.{AreMarks, HasMarks, is_between, is_marked}
use Rattle.coded_scan.proofs.marking.add_run.Given as goal

abbrev pub invariant-loop-at : goal.invariant-loop-at
invariant-loop-at l = record {
  done : (holds : ℕ → Bool) → AreMarks (length (seen_ids l.ids)) holds l.fn.words → (j : ℕ) → j < l.at
      → HasMarks (is_marked (length (seen_ids l.ids)) (λ row. holds row || is_between l.first (l.first + l.more) (get_or (seen_ids l.ids) row 0))) (64 * j) (get_or l.words j 0);
  left : (j : ℕ) → l.at ≤ j → get_or l.words j 0 ≡ get_or l.fn.words j 0;
}
