-- What reading a whole file answers.
use Rattle.std.specs.Prelude.{◌≡◌, ◌≤◌, ◌<◌, ◌↔◌, ℕ, List, length, Option}
use Rattle.outside.specs.Files.{Files, OfFile}
use Rattle.outside.specs.Reads.{Entry, LogsFilled, LogsUpTo}
use Rattle.outside.specs.declared.shelf.ShelfFault.{ShelfFault}
use Rattle.outside.specs.declared.shelf.ShelfFault.TheVariants as shelf
use Rattle.outside.specs.declared.whole.ReadAllFault.{ReadAllFault}
use Rattle.outside.specs.declared.whole.ReadAllFault.TheVariants as whole

-- where files are told, these are the bytes of the one of this name, and are within the limit
abbrev pub IsWhole : Option Files → List ℕ → ℕ → List ℕ → Type 0
IsWhole held name limit bytes = OfFile held name (λ file. (bytes ≡ file) × (length file ≤ limit))

-- where files are told, the one of this name passes the limit
abbrev pub IsTooLong : Option Files → List ℕ → ℕ → Type 0
IsTooLong held name limit = OfFile held name (λ file. limit < length file)

-- the told log grew by reads of this file, back to back from its start to some offset within the
-- limit
abbrev pub LogsFront : List ℕ → ℕ → Option (List Entry) → Option (List Entry) → Type 0
LogsFront file limit old new = LogsUpTo file 0 limit old new

-- a file was read up to some length within the limit, or up to where a read gave nothing
abbrev pub LogsEnd : List ℕ → ℕ → ℕ → Option (List Entry) → Option (List Entry) → Type 0
LogsEnd file limit to old new = (end : ℕ) × (end ≤ limit) × LogsFilled file 0 to end old new

-- what the fault of a shelf is for a whole file
pub record IsWholeFault (fault : ShelfFault) (own : ReadAllFault) : Type 0 where
  pub missing : (own ≡ whole.Missing) ↔ (fault ≡ shelf.Missing)
  pub failed : (own ≡ whole.Failed) ↔ (fault ≡ shelf.Failed)
  pub memory : (own ≡ whole.NoMemory) ↔ (fault ≡ shelf.NoMemory)
  pub not_long : ¬ (own ≡ whole.TooLong)
