-- Eight ids in a vector.
use Rattle.std.proofs.Common.{◌≡◌, ◌∙◌, ◌<◌, ◌≤◌, ◌+◌, ◌-◌, ◌*◌, ◌/◌, ◌%◌, ◌^◌, ◌∷◌, [], ◌++◌, ℕ, List, length, take, drop, get_or, replicate, refl, ap, sym, subst, arith, w8, bit_and, append-nil}
use lib.Lanes.{zip2, number_l, digits_l, Each1}
use Rattle.std.proofs.lemmas.List.{drop_more}
use Rattle.std.proofs.lemmas.Simd.{length-swz_l, length-zip2, get_or_wider, Each1-from_get_or}
use Rattle.std.proofs.lemmas.Nat.{field_of, shl-shr, shr-shr}
use Rattle.bit_column.specs.Bits.{bits, bits_of, field, pieces}
use Rattle.bit_column.specs.Unpacked.{AreEightFactors, AreEightPositions, IsFilled}
use Rattle.bit_column.proofs.BitLemmas.{bits-join}
use Rattle.bit_column.proofs.Fields.{field-bytes}
use Rattle.bit_column.proofs.LaneSteps.{more-pieces, picked, picked-at}
use Rattle.bit_column.proofs.Windows.{field-window}

-- two bytes after so many
pub two_at : (xs : List ℕ) (at : ℕ) → at + 2 ≤ length xs → take 2 (drop at xs) ≡ get_or xs at 0 ∷ get_or xs (at + 1) 0 ∷ []
two_at xs at within = ap (take 2) (drop_more xs at 0 (omega (arith, within)) ∙ ap (λ r. get_or xs at 0 ∷ r) (drop_more xs (at + 1) 0 (omega (arith, within))))

-- the number of two bytes has their bits
bits-two : (n at : ℕ) (xs : List ℕ) → at + 2 ≤ length xs → ((i : ℕ) → get_or xs i 0 < 2 ^ 8) → n ≡ get_or xs at 0 * 256 + get_or xs (at + 1) 0 → bits 16 n ≡ bits_of 8 (take 2 (drop at xs))
bits-two n at xs within small is =
    let high : ℕ = get_or xs at 0 in
    let low : ℕ = get_or xs (at + 1) 0 in
    ap (bits 16) is ∙ bits-join 8 8 high low (small (at + 1))
    ∙ sym (ap (bits_of 8) (two_at xs at within) ∙ ap (λ (l : List ℕ). bits 8 high ++ l) (append-nil (bits 8 low)))

-- a number that is moved up and then down
moved : (n s width : ℕ) → s + width ≤ 16 → n * 2 ^ s % 2 ^ 16 / 2 ^ (16 - width) ≡ n / 2 ^ (16 - width - s) % 2 ^ width
moved n s width room =
    let whole : 16 ≡ width + (16 - width) = omega (arith, room) in
    let parts : 16 - width ≡ s + (16 - width - s) = omega (arith, room) in
    ap (λ m. n * 2 ^ s % 2 ^ m / 2 ^ (16 - width)) whole
    ∙ field_of (n * 2 ^ s) width (16 - width)
    ∙ ap (λ x. x % 2 ^ width) (ap (λ k. n * 2 ^ s / 2 ^ k) parts ∙ sym (shr-shr (n * 2 ^ s) s (16 - width - s)) ∙ ap (λ y. y / 2 ^ (16 - width - s)) (shl-shr n s))

-- the two bytes of an id, the last one first, are the number of its bits
module _ (bytes : List ℕ) (at p : ℕ) (within : at + p + 2 ≤ length bytes) (small : (k : ℕ) → get_or bytes k 0 < 2 ^ 8) where
  found : (x s width : ℕ) → s < 8 → width ≤ 9 → x ≡ get_or bytes (at + p + 1) 0 + 256 * (get_or bytes (at + p) 0 + 256 * 0)
      → x * 2 ^ s % 2 ^ 16 / 2 ^ (16 - width) ≡ field width (8 * (at + p) + s) (bits_of 8 bytes)
  found x s width low narrow is =
      let whole = bits-two x (at + p) bytes within small (omega (arith, is)) in
      let cut : 16 ≡ s + width + (16 - width - s) = omega (arith, low, narrow) in
      let first : s ≡ 8 * (at + p) + s - (at + p) * 8 = omega arith in
      moved x s width (omega (arith, low, narrow))
      ∙ sym (field-window width s (16 - width - s) x (bits_of 8 (take 2 (drop (at + p) bytes))) (sym whole ∙ ap (λ n. bits n x) cut))
      ∙ ap (λ b. field width b (bits_of 8 (take 2 (drop (at + p) bytes)))) first
      ∙ field-bytes width (8 * (at + p) + s) (at + p) 2 bytes (omega arith) (omega (arith, low, narrow))

-- one lane
pub eight-lane : (bytes : List ℕ) (at bit width : ℕ) (positions factors : List ℕ) (i : ℕ) → at + 16 ≤ length bytes → bit < 8 → width ≤ 9 → i < 8 → ((k : ℕ) → get_or bytes k 0 < 2 ^ 8)
    → AreEightPositions bit width positions → AreEightFactors bit width factors
    → get_or (digits_l 65536 8 (number_l 256 (picked bytes at positions))) i 0 * get_or factors i 0 % 2 ^ 16 / 2 ^ (16 - width) ≡ field width (8 * at + (bit + i * width)) (bits_of 8 bytes)
eight-lane bytes at bit width positions factors i there low narrow lt small places moves =
    let first : ℕ = bit + i * width in
    let far : first ≤ 70 = grind (arith, low, narrow, lt) in
    let p : ℕ = first / 8 in
    let s : ℕ = first % 8 in
    let S : List ℕ = picked bytes at positions in
    let long : length S ≡ 16 = length-swz_l w8 16 (take 16 (drop at bytes)) 0 (zip2 bit_and positions (replicate 16 15)) ∙ length-zip2 bit_and positions (replicate 16 15) places.long ∙ places.long in
    let fits : Each1 (λ x. x < 256) S = Each1-from_get_or (λ x. x < 256) S 0 (λ m within.
    let m_below : m < 16 = omega (arith, within, long) in
    let parts : m ≡ 2 * (m / 2) + m % 2 = omega arith in
    let row : m / 2 < 8 = omega (arith, m_below) in
    let near : bit + m / 2 * width ≤ 70 = grind (arith, low, narrow, row) in
    let is = ap (λ k. get_or positions k 0) parts ∙ places.each (m / 2) (m % 2) row (omega arith) in
    subst (λ x. x < 256) (sym (picked-at bytes at positions m ((bit + m / 2 * width) / 8 + 1 - m % 2) places.long m_below is (omega (arith, near)))) (small (at + ((bit + m / 2 * width) / 8 + 1 - m % 2)))) in
    let byte : (j : ℕ) → j < 2 → get_or S (2 * i + j) 0 ≡ get_or bytes (at + (p + 1 - j)) 0 = λ j below. picked-at bytes at positions (2 * i + j) (p + 1 - j) places.long (omega (arith, lt, below)) (places.each i j lt below) (omega (arith, far)) in
    let two : take 2 (drop (2 * i) S) ≡ get_or S (2 * i) 0 ∷ get_or S (2 * i + 1) 0 ∷ [] = two_at S (2 * i) (omega (arith, long, lt)) in
    let word = get_or_wider 256 2 65536 8 S i refl fits lt ∙ ap (number_l 256) two in
    let zero_off : 2 * i + 0 ≡ 2 * i = omega arith in
    let a : get_or S (2 * i) 0 ≡ get_or bytes (at + p + 1) 0 = ap (λ k. get_or S k 0) (sym zero_off) ∙ byte 0 (omega arith) ∙ ap (λ k. get_or bytes k 0) (omega arith) in
    let b : get_or S (2 * i + 1) 0 ≡ get_or bytes (at + p) 0 = byte 1 (omega arith) ∙ ap (λ k. get_or bytes k 0) (omega arith) in
    let whole : get_or (digits_l 65536 8 (number_l 256 S)) i 0 ≡ get_or bytes (at + p + 1) 0 + 256 * (get_or bytes (at + p) 0 + 256 * 0) =
    omega (arith, word, a, b) in
    let place : 8 * (at + p) + s ≡ 8 * at + first = omega arith in
    ap (λ f. get_or (digits_l 65536 8 (number_l 256 S)) i 0 * f % 2 ^ 16 / 2 ^ (16 - width)) (moves.each i lt)
    ∙ found bytes at p (omega (arith, there, far)) small (get_or (digits_l 65536 8 (number_l 256 S)) i 0) s width (omega arith) narrow whole
    ∙ ap (λ b. field width b (bits_of 8 bytes)) place

pub eight-filled : (bytes ids new lanes : List ℕ) (at bit first width to : ℕ) → length lanes ≡ 8 → ((i : ℕ) → i < 8 → get_or lanes i 0 ≡ field width (8 * at + (bit + i * width)) (bits_of 8 bytes)) → 8 * at + bit ≡ first + to * width
    → take (to + 8) new ≡ take to ids ++ lanes → IsFilled first width to (bits_of 8 bytes) ids → IsFilled first width (to + 8) (bits_of 8 bytes) new
eight-filled bytes ids new lanes at bit first width to many each place is so_far = record {
  filled =
      is
      ∙ ap (λ xs. xs ++ lanes) so_far.filled
      ∙ more-pieces lanes (bits_of 8 bytes) first width to (λ i lt. each i (omega (arith, lt, many)) ∙ ap (λ b. field width b (bits_of 8 bytes)) (omega (arith, place)))
      ∙ ap (λ n. pieces width first (to + n) (bits_of 8 bytes)) many;
}
