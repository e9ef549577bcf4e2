use Rattle.std.proofs.Common.{◌≡◌, ◌<◌, ℕ, get_or, length, take}
use Rattle.coded_columns.specs.Keys.{key_at}
use Rattle.coded_columns.proofs.keys.add_columns.Given as goal

abbrev pub invariant-loop-at : goal.invariant-loop-at
invariant-loop-at l = (k : ℕ) → k < length l.placed.places.now → get_or l.keys k 0 ≡ key_at l.placed.segment.now (take l.at l.groups) (get_or l.placed.places.now k 0)
