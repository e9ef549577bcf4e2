-- Parts of a file that are read one after the other.
use Rattle.std.specs.Prelude.{◌≡◌, ◌⊎◌, ℕ, List, [], ◌∷◌, Option}
use Rattle.outside.specs.Reads.{Entry, LogsOn, LogsUpTo}

-- the bytes of a file from one offset up to another, which is left out
pub record Stretch : Type 0 where
  pub from : ℕ
  pub to : ℕ

-- the told log grew by the reads of these stretches, one after the other: each byte of each of them
-- once
abbrev pub LogsOver : List ℕ → List Stretch → Option (List Entry) → Option (List Entry) → Type 0
LogsOver file [] old new = new ≡ old
LogsOver file (stretch ∷ stretches) old new =
    (between : Option (List Entry)) × LogsOn file stretch.from stretch.to old between
    × LogsOver file stretches between new

-- the told log grew by some of these reads, the last of them perhaps in part
abbrev pub LogsPartly : List ℕ → List Stretch → Option (List Entry) → Option (List Entry) → Type 0
LogsPartly file [] old new = new ≡ old
LogsPartly file (stretch ∷ stretches) old new =
    LogsUpTo file stretch.from stretch.to old new
    ⊎ ((between : Option (List Entry)) × LogsOn file stretch.from stretch.to old between
    × LogsPartly file stretches between new)
