use Rattle.std.proofs.Common.{◌≡◌, ◌<◌, ◌+◌, ℕ}
use Rattle.csv_ingest.specs.Parts.{mark_at}
use Rattle.csv_ingest.proofs.parts.has_commas.Given as goal

abbrev pub invariant-cells : goal.invariant-cells
invariant-cells l = (k : ℕ) → 0 < k → k < l.k → mark_at l.text l.places (l.at + k) ≡ 44
