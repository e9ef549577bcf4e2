-- Ids in two bytes each.
use Rattle.std.proofs.Common.{◌≡◌, ◌<◌, ◌≤◌, ◌+◌, ◌*◌, ◌^◌, ℕ, List, length, take, drop, get_or, arith, length-take, Fits, w16}
use Rattle.std.proofs.Math.Nat.{pow-le-pow_right}
use Rattle.bit_column.specs.Bits.{bits_of, field}
use Rattle.bit_column.proofs.BitLemmas.{AreBits-bits_of, AreBits-drop, AreBits-take, number-below}

-- a number of so many bits
pub field-below : (width first : ℕ) (bytes : List ℕ) → field width first (bits_of 8 bytes) < 2 ^ width
unfolding field
field-below width first bytes =
    let digits = drop first (bits_of 8 bytes) in
    let few : length (take width digits) ≤ width = omega (arith, length-take width digits) in
    let own = number-below (take width digits) (AreBits-take width digits (AreBits-drop first (bits_of 8 bytes) (AreBits-bits_of 8 bytes))) in
    omega (arith, own, pow-le-pow_right {n = 2} (omega arith) few)

pub field-narrow : (width first : ℕ) (bytes : List ℕ) → width ≤ 16 → field width first (bits_of 8 bytes) < 2 ^ 16
field-narrow width first bytes narrow = omega (arith, field-below width first bytes, pow-le-pow_right {n = 2} (omega arith) narrow)

-- a lane of four ids fits in two bytes
pub narrow-lane : (lanes bytes : List ℕ) (at bit width i : ℕ) → width ≤ 16 → length lanes ≡ 4 → ((k : ℕ) → k < 4 → get_or lanes k 0 ≡ field width (8 * at + (bit + k * width)) (bits_of 8 bytes)) → i < length lanes → Fits w16 (get_or lanes i 0)
narrow-lane lanes bytes at bit width i narrow four each lt = record {
  fits = omega (arith, each i (omega (arith, lt, four)), field-narrow width (8 * at + (bit + i * width)) bytes narrow);
}
