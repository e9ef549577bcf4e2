-- The forward index of a column: the ids of its rows, each in as many bits as the number of ids
-- wants.
use Rattle.std.specs.Prelude.{◌≡◌, ◌≤◌, ℕ, ◌+◌, ◌-◌, ◌*◌, ◌/◌, ◌^◌, List, ◌++◌, length, replicate, max, Result, OnOk, OnErr}
use Rattle.std.specs.Int.{leading_zeros, w32}
use Rattle.bit_column.specs.Bits.{bits_of, field, pieces}

-- the number is the least from 1 on with so many numbers of so many bits
abbrev pub IsWidth : ℕ → ℕ → Type 0
IsWidth count width = (1 ≤ width) × (count ≤ 2 ^ width) × ((other : ℕ) → 1 ≤ other
    → count ≤ 2 ^ other → width ≤ other)

-- that number: the digits of the greatest id, and one where there is no id but 0
abbrev pub width_of : ℕ → ℕ
width_of count = max 1 (32 - leading_zeros w32 (count - 1))

-- how many bytes so many bits fill, the last one perhaps in part
abbrev pub bytes_for : ℕ → ℕ
bytes_for count = (count + 7) / 8

-- ids as a section has them: their bits, with zero bits after them, cut into bytes
unfoldable pub spelled : ℕ → List ℕ → List ℕ
spelled width ids = pieces 8 0 (bytes_for (length ids * width)) (bits_of width ids ++ replicate 7 0)

-- the id at an index of a section's bytes
abbrev pub id_at : ℕ → ℕ → List ℕ → ℕ
id_at width index bytes = field width (index * width) (bits_of 8 bytes)

-- the ids from one index to another, which is left out
abbrev pub ids_between : ℕ → ℕ → ℕ → List ℕ → List ℕ
ids_between width from to bytes = pieces width (from * width) (to - from) (bits_of 8 bytes)

-- these bytes were appended to others, or none were
pub record Appends {E : Type 0} (result : Result (Unit {0}) E) (bytes old new : List ℕ)
    : Type 0 where
  pub ok : OnOk result (new ≡ old ++ bytes)
  pub err : OnErr result (new ≡ old)
