use Rattle.std.proofs.Common.{◌≡◌, ◌<◌, ℕ, get_or}
use Rattle.coded_columns.specs.Ids.{seen_ids}
use Rattle.coded_columns.proofs.keys.put_placed.Given as goal

abbrev pub invariant-loop-k : goal.invariant-loop-k
invariant-loop-k l = (j : ℕ) → j < l.k → get_or l.keys j 0 ≡ get_or (seen_ids l.ids) (get_or l.places j 0) 0
