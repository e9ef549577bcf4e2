use Rattle.std.proofs.Common.{◌≡◌, ◌<◌, ◌≤◌, ℕ, get_or}
use Rattle.doc_lists.proofs.WordSteps.{IsWithout}
use Rattle.doc_lists.proofs.marks.take_marks.Given as goal

abbrev pub invariant-loop-at : goal.invariant-loop-at
invariant-loop-at l = record {
  done : (j : ℕ) → j < l.at → IsWithout (get_or l.fn.marks j 0) (get_or l.others j 0) (get_or l.marks j 0);
  left : (j : ℕ) → l.at ≤ j → get_or l.marks j 0 ≡ get_or l.fn.marks j 0;
}
