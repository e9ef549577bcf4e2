-- The places of the bytes of a text that pass a test.
use Rattle.std.specs.Prelude.{ℕ, ◌+◌, Bool, ◌||◌, ◌==◌, List, [], ◌∷◌, if◌then◌else◌}

-- a comma, a line feed, a carriage return or a quote
abbrev pub is_separator : ℕ → Bool
is_separator byte = byte == 44 || byte == 10 || byte == 13 || byte == 34

-- these places, where the first byte is at this one
abbrev pub places : (ℕ → Bool) → ℕ → List ℕ → List ℕ
places test at [] = []
places test at (byte ∷ bytes) = if test byte then at ∷ places test (at + 1) bytes
    else places test (at + 1) bytes
