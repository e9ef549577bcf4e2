-- Counts of a device's faults.
use Rattle.std.specs.Prelude.{◌≡◌, ◌≤◌, ℕ}
use Rattle.outside.specs.Counts.{Rose}

-- the count rose just where the call failed, and never falls
pub record Counts (Fails : Type 0) (old new : ℕ) : Type 0 where
  pub later : old ≤ new
  pub rose : Fails → Rose old new
  pub unchanged : ¬ Fails → new ≡ old
