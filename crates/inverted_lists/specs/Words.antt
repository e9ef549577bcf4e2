-- Bytes that grow.
use Rattle.std.specs.Prelude.{◌≡◌, ◌++◌, ℕ, List}

-- the bytes are others with more after them
abbrev pub IsExtended : List ℕ → List ℕ → Type 0
IsExtended old new = (more : List ℕ) × (new ≡ old ++ more)
