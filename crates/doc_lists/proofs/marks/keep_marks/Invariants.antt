use Rattle.std.proofs.Common.{◌≡◌, ◌<◌, ◌≤◌, ℕ, get_or, bit_and}
use Rattle.doc_lists.proofs.marks.keep_marks.Given as goal

abbrev pub invariant-loop-at : goal.invariant-loop-at
invariant-loop-at l = record {
  done : (j : ℕ) → j < l.at → get_or l.marks j 0 ≡ bit_and (get_or l.fn.marks j 0) (get_or l.others j 0);
  left : (j : ℕ) → l.at ≤ j → get_or l.marks j 0 ≡ get_or l.fn.marks j 0;
}
