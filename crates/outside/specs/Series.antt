-- Reads that are made one after the other.
use Rattle.std.specs.Prelude.{◌≡◌, ◌≤◌, ◌<◌, ◌⊎◌, ℕ, zero, suc, List, Option}
use Rattle.outside.specs.Reads.{Entry}

-- what the log is before some reads, and after them
abbrev pub Logs : Type 1
Logs = Option (List Entry) → Option (List Entry) → Type 0

-- the first so many of them, one after the other
abbrev pub LogsTo : (ℕ → Logs) → ℕ → Logs
LogsTo each zero old new = new ≡ old
LogsTo each (suc n) old new = (between : Option (List Entry)) × LogsTo each n old between
    × each n between new

-- some of so many, and then perhaps a part of the next one
pub record LogsPartOf (each partly : ℕ → Logs) (count : ℕ) (old new : Option (List Entry))
    : Type 0 where
  pub upto : ℕ
  pub at_most : upto ≤ count
  pub between : Option (List Entry)
  pub before : LogsTo each upto old between
  pub rest : (new ≡ between) ⊎ ((upto < count) × partly upto between new)
