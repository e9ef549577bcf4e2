-- Counts of faults, which are 64-bit numbers that never fall and stay at the greatest one.
use Rattle.std.specs.Prelude.{◌≡◌, ◌<◌, ◌⊎◌, ◌+◌, ◌-◌, ◌^◌, ℕ, min}

-- a count rose in a call: it is greater than before, or is at the end of its type
abbrev pub Rose : ℕ → ℕ → Type 0
Rose before now = (before < now) ⊎ (now ≡ 2 ^ 64 - 1)

-- one more, or the greatest number
abbrev pub next : ℕ → ℕ
next count = min (count + 1) (2 ^ 64 - 1)
