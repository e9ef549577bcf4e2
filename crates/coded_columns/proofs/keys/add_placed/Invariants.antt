use Rattle.std.proofs.Common.{◌≡◌, ◌<◌, ◌≤◌, ◌+◌, ◌*◌, ℕ, get_or}
use Rattle.coded_columns.proofs.keys.add_placed.Given as goal

abbrev pub invariant-loop-k : goal.invariant-loop-k
invariant-loop-k l = record {
  done : (j : ℕ) → j < l.k → get_or l.keys j 0 ≡ get_or l.fn.keys j 0 * l.width + get_or l.fn.ids (get_or l.places j 0) 0;
  rest : (j : ℕ) → l.k ≤ j → get_or l.keys j 0 ≡ get_or l.fn.keys j 0;
}
