use Rattle.std.proofs.Common.{ℕ, get_or}
use Rattle.coded_columns.specs.Keyed.{SetsFirst}
use Rattle.coded_columns.proofs.keyed_rows.set_firsts.Given as goal

abbrev pub invariant-loop-at : goal.invariant-loop-at
invariant-loop-at l = (k : ℕ) → SetsFirst l.at l.keys l.placed.places.now k (get_or l.fn.firsts k 0) (get_or l.firsts k 0)
