-- A range of ids in eight bytes.
use Rattle.std.proofs.Common.{◌≡◌, ◌≤◌, ◌<◌, ℕ, ◌+◌, ◌-◌, ◌*◌, ◌/◌, ◌%◌, List, [], ◌∷◌, ◌++◌, All, length, take, refl, sym, ap, ◌∙◌, subst, arith, append_assoc, length-take}
use Rattle.std.proofs.lemmas.List.Elements.{All-push}
use Rattle.std.proofs.lemmas.Nat.{mul-le}
use Rattle.bit_column.specs.Bits.{bits, bits_of, field, pieces}
use Rattle.bit_column.specs.Unpacked.{HasWord}
use Rattle.bit_column.proofs.Fields.{pieces-below, pieces-more}
use Rattle.bit_column.proofs.Ranges.{pieces-bytes, range-held, span}

-- its bytes are at most eight
pub few-bytes : (width from to : ℕ) → from ≤ to → from * width % 8 + (to - from) * width ≤ 64 → (to * width + 7) / 8 ≤ from * width / 8 + 8
few-bytes width from to order few = omega (arith, span width from to order, few)

-- one id is in eight bytes
pub one-few : (width from to : ℕ) → to - from ≡ 1 → width ≤ 32 → from * width % 8 + (to - from) * width ≤ 64
one-few width from to one most =
    let alone : 1 * width ≡ width = grind arith in
    let all : (to - from) * width ≡ 1 * width = ap (λ n. n * width) one in
    omega (arith, alone, all, most)

-- so many of eight bytes
pub few-long : (width from to : ℕ) (bytes : List ℕ) → from ≤ to → from * width % 8 + (to - from) * width ≤ 64 → length bytes ≡ 8
    → length (take ((to * width + 7) / 8 - from * width / 8) bytes) ≡ (to * width + 7) / 8 - from * width / 8
few-long width from to bytes order few long =
    omega (arith, length-take ((to * width + 7) / 8 - from * width / 8) bytes, few-bytes width from to order few, long)

-- at the front of some, they have its ids
pub few-read : (width from to bit : ℕ) (bytes : List ℕ) → from ≤ to → bit ≡ from * width % 8
    → pieces width bit (to - from) (bits_of 8 bytes) ≡ pieces width bit (to - from) (bits_of 8 (take ((to * width + 7) / 8 - from * width / 8) bytes))
few-read width from to bit bytes order is =
    let size = (to * width + 7) / 8 - from * width / 8 in
    let start : bit ≡ bit - 0 * 8 = omega arith in
    sym (ap (λ b. pieces width b (to - from) (bits_of 8 (take size bytes))) start
    ∙ pieces-bytes width bit 0 size (to - from) bytes (omega arith) (omega (arith, is, range-held width from to size order refl)))

-- ---- ids of a word that are appended one by one

-- each of them is in the word
pub few-room : (width bit number i : ℕ) → i < number → bit + number * width ≤ 64 → bit + i * width + width ≤ 64
few-room width bit number i within held =
    let next : (i + 1) * width ≡ i * width + width = grind arith in
    omega (arith, held, next, mul-le (i + 1) width number width (omega (arith, within)) (omega arith))

-- the number in the word of the first eight bytes is that of the bytes
pub few-field : (width bit word id : ℕ) (digits : List ℕ) → bit + width ≤ 64 → HasWord (8 * 0) word digits → id ≡ field width bit (bits 64 word) → id ≡ field width bit digits
few-field width bit word id digits within has is =
    let first : 8 * 0 + bit ≡ bit = omega arith in
    is ∙ has.each width bit within ∙ ap (λ b. field width b digits) first

pub few-grown : (width bit i id : ℕ) (digits before now after : List ℕ) → id ≡ field width (bit + i * width) digits → now ≡ before ++ pieces width bit i digits → after ≡ now ++ id ∷ []
    → after ≡ before ++ pieces width bit (i + 1) digits
few-grown width bit i id digits before now after is so_far pushed =
    pushed
    ∙ ap (λ xs. xs ++ id ∷ []) so_far
    ∙ append_assoc before (pieces width bit i digits) (id ∷ [])
    ∙ ap (λ xs. before ++ xs) (ap (λ x. pieces width bit i digits ++ x ∷ []) is ∙ sym (pieces-more width bit i digits))

pub few-below : (width bit i id count : ℕ) (digits : List ℕ) → id ≡ field width (bit + i * width) digits → All (λ n. n < count) (pieces width bit i digits) → id < count
    → All (λ n. n < count) (pieces width bit (i + 1) digits)
few-below width bit i id count digits is so_far below =
    subst (All (λ n. n < count)) (sym (pieces-more width bit i digits))
    (All-push (λ n. n < count) (pieces width bit i digits) (field width (bit + i * width) digits) so_far (subst (λ n. n < count) is below))

pub few-bad : (width bit number i id count : ℕ) (digits : List ℕ) → i < number → id ≡ field width (bit + i * width) digits → (id < count → ⊥)
    → All (λ n. n < count) (pieces width bit number digits) → ⊥
few-bad width bit number i id count digits within is bad all =
    bad (subst (λ n. n < count) (sym is) (pieces-below width bit number i count digits within all))
