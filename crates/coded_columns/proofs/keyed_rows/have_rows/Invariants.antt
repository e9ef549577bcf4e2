use Rattle.std.proofs.Common.{◌<◌, ℕ, get_or}
use Rattle.std.specs.Bool.{OnTrue}
use Rattle.coded_columns.proofs.keyed_rows.have_rows.Given as goal

abbrev pub invariant-loop-at : goal.invariant-loop-at
invariant-loop-at l = OnTrue l.all ((k : ℕ) → k < l.at → 0 < get_or l.firsts k 0)
