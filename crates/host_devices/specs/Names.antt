-- The ends of a name.
use Rattle.std.specs.Prelude.{◌≡◌, ◌-◌, ℕ, List, length, take, drop}
use Rattle.std.specs.Int.{to_le_bytes, w64}

-- the size of a name, and the numbers of its first eight bytes and of its last
pub record AreEnds (name : List ℕ) (size first last : ℕ) : Type 0 where
  pub lengths : length name ≡ size
  pub front : to_le_bytes w64 first ≡ take 8 (drop 0 name)
  pub back : to_le_bytes w64 last ≡ take 8 (drop (size - 8) name)
