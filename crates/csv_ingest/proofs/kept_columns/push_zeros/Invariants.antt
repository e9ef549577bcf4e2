use Rattle.std.proofs.Common.{◌≡◌, ◌+◌, ℕ}
use Rattle.csv_ingest.specs.Kept.{Grown}
use Rattle.csv_ingest.proofs.kept_columns.push_zeros.Given as goal

abbrev pub invariant-zeros : goal.invariant-zeros
invariant-zeros l = (done : ℕ) × (done + l.left ≡ l.fn.rows) × Grown done l.fn.column l.column

abbrev pub decreases-zeros : goal.decreases-zeros
decreases-zeros l = l.left
