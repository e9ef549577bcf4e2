-- The spelling of a least or greatest number.
use Rattle.std.proofs.Common.{◌≡◌, ℕ, ◌^◌, ◌<◌, Option, Some, None, List, length, get_or, subst}
use Rattle.std.proofs.Common.{refl, sym, ap, ◌∙◌, arith}
use Rattle.std.specs.Prelude.{ℤ, pos, negsuc}
use Rattle.std.proofs.lemmas.Int.{ints, to_z-of_z, of_z-to_z}
use Rattle.std.proofs.lemmas.Nat.{from_be_bytes-to_be_bytes_8, be_bytes_8}
use Rattle.std.specs.Int.{w64, to_be_bytes, from_be_bytes, cast_signed, cast_unsigned}
use Rattle.std.specs.Int.RustNames.{FitsSigned}
use Rattle.agg_laws.specs.Numbers.{IsWhole, NumberStored, number_bytes}

-- a signed 64-bit number fits its type
pub fits_64 : (m : ℤ) → IsWhole m → FitsSigned w64 m
fits_64 m h = omega (arith, ints)

pub whole_64 : (m : ℤ) → FitsSigned w64 m → IsWhole m
whole_64 (pos n) h = let lt = h.sfits in (omega (arith, ints), omega (arith, ints))
whole_64 (negsuc n) h = let lt = h.sfits in (omega (arith, ints), omega (arith, ints))

unsigned : (m : ℤ) → FitsSigned w64 m → cast_unsigned w64 m < 2 ^ 64
unsigned (pos n) h = omega (arith, h.sfits)
unsigned (negsuc n) h = omega (arith, h.sfits)

-- what was written is read
pub read : (m : ℤ) → FitsSigned w64 m → cast_signed w64 (from_be_bytes w64 (number_bytes (Some m)))
    ≡ m
unfolding number_bytes
read m h = ap (cast_signed w64) (from_be_bytes-to_be_bytes_8 (cast_unsigned w64 m) (unsigned m h))
    ∙ to_z-of_z w64 m h

below_8 : (bs : List ℕ) → ((i : ℕ) → get_or bs i 0 < 256) → from_be_bytes w64 bs < 2 ^ 64
below_8 bs small = omega
    (arith, small 0, small 1, small 2, small 3, small 4, small 5, small 6, small 7)

-- what was read is written
pub written : (bs : List ℕ) → length bs ≡ 8 → ((i : ℕ) → get_or bs i 0 < 256)
    → number_bytes (Some (cast_signed w64 (from_be_bytes w64 bs))) ≡ bs
unfolding number_bytes
written bs l small = ap (to_be_bytes w64) (of_z-to_z w64 (from_be_bytes w64 bs) (below_8 bs small))
    ∙ be_bytes_8 bs _ l small refl

pub spelled : (v : Option ℤ) → NumberStored v → length (number_bytes v) ≡ 8
unfolding number_bytes
spelled None h = absurd h
spelled (Some m) h = refl

pub one_spelling : (v w : Option ℤ) → NumberStored v → NumberStored w → number_bytes v
    ≡ number_bytes w → v ≡ w
one_spelling None w h k is = absurd h
one_spelling (Some m) None h k is = absurd k
one_spelling (Some m) (Some n) h k is =
    ap Some (sym (read m (fits_64 m h)) ∙ ap (λ bs. cast_signed w64 (from_be_bytes w64 bs)) is
    ∙ read n (fits_64 n k))

-- a number that was read is stored, and is the one that has these bytes
pub found : (bs : List ℕ) (r : ℤ) → FitsSigned w64 r → r ≡ cast_signed w64 (from_be_bytes w64 bs)
    → length bs ≡ 8 → ((i : ℕ) → get_or bs i 0 < 256)
    → IsWhole (cast_signed w64 (cast_unsigned w64 r))
    × (number_bytes (Some (cast_signed w64 (cast_unsigned w64 r))) ≡ bs)
found bs r fits is l small =
    let same : cast_signed w64 (cast_unsigned w64 r) ≡ r = to_z-of_z w64 r fits in (
      subst IsWhole (sym same) (whole_64 r fits),
      ap (λ m. number_bytes (Some m)) (same ∙ is)
          ∙ written bs l small,
    )

pub again : (bs : List ℕ) (r : ℤ) → FitsSigned w64 r → r ≡ cast_signed w64 (from_be_bytes w64 bs)
    → (v : Option ℤ) → NumberStored v → number_bytes v ≡ bs
    → Some (cast_signed w64 (cast_unsigned w64 r)) ≡ v
again bs r fits is None stored same = absurd stored
again bs r fits is (Some m) stored same =
    ap Some (to_z-of_z w64 r fits ∙ is ∙ ap (λ b. cast_signed w64 (from_be_bytes w64 b)) (sym same)
    ∙ read m (fits_64 m stored))
