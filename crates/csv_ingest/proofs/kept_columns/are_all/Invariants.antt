use Rattle.std.proofs.Common.{◌≡◌, ◌<◌, ℕ, true, get_or}
use Rattle.csv_ingest.proofs.kept_columns.are_all.Given as goal

abbrev pub invariant-marks : goal.invariant-marks
invariant-marks l = (k : ℕ) → k < l.i → get_or l.kept k true ≡ true
