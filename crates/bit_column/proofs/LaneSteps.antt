-- Four ids in a vector.
use Rattle.std.proofs.Common.{◌≡◌, ◌∙◌, ◌<◌, ◌≤◌, ◌+◌, ◌-◌, ◌*◌, ◌/◌, ◌%◌, ◌^◌, ◌∷◌, [], ◌++◌, append-nil, append_assoc, ℕ, suc, List, length, take, drop, get_or, replicate, refl, ap, ap₂, sym, subst, arith, w8, bit_and}
use lib.Lanes.{zip2, number_l, digits_l, Each1}
use Rattle.std.proofs.lemmas.Simd.{swz_l, get_or-swz_l_below, length-swz_l, get_or-zip2, length-zip2, get_or-replicate, get_or_wider, get_or-chunk, Each1-from_get_or}
use Rattle.std.proofs.lemmas.Nat.{and_mask, field_of, shl-shr, shr-shr}
use Rattle.bit_column.specs.Bits.{bits, bits_of, field, pieces}
use Rattle.bit_column.specs.Unpacked.{AreFactors, ArePositions, IsFilled}
use Rattle.bit_column.proofs.Fields.{bits-four, field-bytes, four_at, pieces-more}
use Rattle.bit_column.proofs.Windows.{field-window}

-- a number that is moved up and then down
moved : (n s width : ℕ) → s + width ≤ 32 → n * 2 ^ s % 2 ^ 32 / 2 ^ (32 - width) ≡ n / 2 ^ (32 - width - s) % 2 ^ width
moved n s width room =
    let whole : 32 ≡ width + (32 - width) = omega (arith, room) in
    let parts : 32 - width ≡ s + (32 - width - s) = omega (arith, room) in
    ap (λ m. n * 2 ^ s % 2 ^ m / 2 ^ (32 - width)) whole
    ∙ field_of (n * 2 ^ s) width (32 - width)
    ∙ ap (λ x. x % 2 ^ width) (ap (λ k. n * 2 ^ s / 2 ^ k) parts ∙ sym (shr-shr (n * 2 ^ s) s (32 - width - s)) ∙ ap (λ y. y / 2 ^ (32 - width - s)) (shl-shr n s))

-- the four bytes of an id, the last one first, are the number of its bits
module _ (bytes : List ℕ) (at p : ℕ) (within : at + p + 4 ≤ length bytes) (small : (k : ℕ) → get_or bytes k 0 < 2 ^ 8) where
  pub found : (x s width : ℕ) → s < 8 → width ≤ 24
      → x ≡ get_or bytes (at + p + 3) 0 + 256 * (get_or bytes (at + p + 2) 0 + 256 * (get_or bytes (at + p + 1) 0 + 256 * (get_or bytes (at + p) 0 + 256 * 0)))
      → x * 2 ^ s % 2 ^ 32 / 2 ^ (32 - width) ≡ field width (8 * (at + p) + s) (bits_of 8 bytes)
  found x s width low narrow is =
      let whole = bits-four x (at + p) bytes within small (omega (arith, is)) in
      let cut : 32 ≡ s + width + (32 - width - s) = omega (arith, low, narrow) in
      let first : s ≡ 8 * (at + p) + s - (at + p) * 8 = omega arith in
      moved x s width (omega (arith, low, narrow))
      ∙ sym (field-window width s (32 - width - s) x (bits_of 8 (take 4 (drop (at + p) bytes))) (sym whole ∙ ap (λ n. bits n x) cut))
      ∙ ap (λ b. field width b (bits_of 8 (take 4 (drop (at + p) bytes)))) first
      ∙ field-bytes width (8 * (at + p) + s) (at + p) 4 bytes (omega arith) (omega (arith, low, narrow))

-- the bytes that are picked
abbrev pub picked : List ℕ → ℕ → List ℕ → List ℕ
picked bytes at positions = swz_l w8 16 (take 16 (drop at bytes)) 0 (zip2 bit_and positions (replicate 16 15))

pub picked-at : (bytes : List ℕ) (at : ℕ) (positions : List ℕ) (m p : ℕ) → length positions ≡ 16 → m < 16 → get_or positions m 0 ≡ p → p < 16 → get_or (picked bytes at positions) m 0 ≡ get_or bytes (at + p) 0
picked-at bytes at positions m p long lt is small =
    let js = zip2 bit_and positions (replicate 16 15) in
    let own : get_or js m 0 ≡ p =
    get_or-zip2 bit_and positions (replicate 16 15) m 0 0 0 (omega (arith, long, lt)) lt
    ∙ ap₂ bit_and is (get_or-replicate 16 m 15 0 lt)
    ∙ and_mask p 4
    ∙ omega (arith, small) in
    let place : 16 * ((0 + m) / 16) + p ≡ p = omega (arith, lt) in
    get_or-swz_l_below w8 16 (take 16 (drop at bytes)) 0 js m (omega (arith, length-zip2 bit_and positions (replicate 16 15) long, long, lt)) (omega (arith, own, small))
    ∙ ap (λ k. get_or (take 16 (drop at bytes)) (16 * ((0 + m) / 16) + k) 0) own
    ∙ ap (λ k. get_or (take 16 (drop at bytes)) k 0) place
    ∙ get_or-chunk at 16 bytes p 0 small

-- one lane
pub lane : (bytes : List ℕ) (at bit width : ℕ) (positions factors : List ℕ) (i : ℕ) → at + 16 ≤ length bytes → bit < 8 → width ≤ 24 → i < 4 → ((k : ℕ) → get_or bytes k 0 < 2 ^ 8)
    → ArePositions bit width positions → AreFactors bit width factors
    → get_or (digits_l 4294967296 4 (number_l 256 (picked bytes at positions))) i 0 * get_or factors i 0 % 2 ^ 32 / 2 ^ (32 - width) ≡ field width (8 * at + (bit + i * width)) (bits_of 8 bytes)
lane bytes at bit width positions factors i there low narrow lt small places moves =
    let first : ℕ = bit + i * width in
    let far : first ≤ 79 = grind (arith, low, narrow, lt) in
    let p : ℕ = first / 8 in
    let s : ℕ = first % 8 in
    let S : List ℕ = picked bytes at positions in
    let long : length S ≡ 16 = length-swz_l w8 16 (take 16 (drop at bytes)) 0 (zip2 bit_and positions (replicate 16 15)) ∙ length-zip2 bit_and positions (replicate 16 15) places.long ∙ places.long in
    let fits : Each1 (λ x. x < 256) S = Each1-from_get_or (λ x. x < 256) S 0 (λ m within.
    let m_below : m < 16 = omega (arith, within, long) in
    let parts : m ≡ 4 * (m / 4) + m % 4 = omega arith in
    let row : m / 4 < 4 = omega (arith, m_below) in
    let near : bit + m / 4 * width ≤ 79 = grind (arith, low, narrow, row) in
    let is = ap (λ k. get_or positions k 0) parts ∙ places.each (m / 4) (m % 4) row (omega arith) in
    subst (λ x. x < 256) (sym (picked-at bytes at positions m ((bit + m / 4 * width) / 8 + 3 - m % 4) places.long m_below is (omega (arith, near)))) (small (at + ((bit + m / 4 * width) / 8 + 3 - m % 4)))) in
    let byte : (j : ℕ) → j < 4 → get_or S (4 * i + j) 0 ≡ get_or bytes (at + (p + 3 - j)) 0 = λ j below. picked-at bytes at positions (4 * i + j) (p + 3 - j) places.long (omega (arith, lt, below)) (places.each i j lt below) (omega (arith, far)) in
    let four : take 4 (drop (4 * i) S) ≡ get_or S (4 * i) 0 ∷ get_or S (4 * i + 1) 0 ∷ get_or S (4 * i + 2) 0 ∷ get_or S (4 * i + 3) 0 ∷ [] = four_at S (4 * i) (omega (arith, long, lt)) in
    let word = get_or_wider 256 4 4294967296 4 S i refl fits lt ∙ ap (number_l 256) four in
    let zero_off : 4 * i + 0 ≡ 4 * i = omega arith in
    let a : get_or S (4 * i) 0 ≡ get_or bytes (at + p + 3) 0 = ap (λ k. get_or S k 0) (sym zero_off) ∙ byte 0 (omega arith) ∙ ap (λ k. get_or bytes k 0) (omega arith) in
    let b : get_or S (4 * i + 1) 0 ≡ get_or bytes (at + p + 2) 0 = byte 1 (omega arith) ∙ ap (λ k. get_or bytes k 0) (omega arith) in
    let c : get_or S (4 * i + 2) 0 ≡ get_or bytes (at + p + 1) 0 = byte 2 (omega arith) ∙ ap (λ k. get_or bytes k 0) (omega arith) in
    let d : get_or S (4 * i + 3) 0 ≡ get_or bytes (at + p) 0 = byte 3 (omega arith) ∙ ap (λ k. get_or bytes k 0) (omega arith) in
    let whole : get_or (digits_l 4294967296 4 (number_l 256 S)) i 0 ≡ get_or bytes (at + p + 3) 0 + 256 * (get_or bytes (at + p + 2) 0 + 256 * (get_or bytes (at + p + 1) 0 + 256 * (get_or bytes (at + p) 0 + 256 * 0))) =
    omega (arith, word, a, b, c, d) in
    let place : 8 * (at + p) + s ≡ 8 * at + first = omega arith in
    ap (λ f. get_or (digits_l 4294967296 4 (number_l 256 S)) i 0 * f % 2 ^ 32 / 2 ^ (32 - width)) (moves.each i lt)
    ∙ found bytes at p (omega (arith, there, far)) small (get_or (digits_l 4294967296 4 (number_l 256 S)) i 0) s width (omega arith) narrow whole
    ∙ ap (λ b. field width b (bits_of 8 bytes)) place

-- ids after those before them
pub more-pieces : (xs digits : List ℕ) (first width to : ℕ) → ((i : ℕ) → i < length xs → get_or xs i 0 ≡ field width (first + to * width + i * width) digits) → pieces width first to digits ++ xs ≡ pieces width first (to + length xs) digits
more-pieces [] digits first width to each = append-nil (pieces width first to digits) ∙ ap (λ n. pieces width first n digits) (omega arith)
more-pieces (x ∷ xs) digits first width to each =
    let here : x ≡ field width (first + to * width) digits = each 0 (omega arith) ∙ ap (λ b. field width b digits) (omega arith) in
    let next : (i : ℕ) → i < length xs → get_or xs i 0 ≡ field width (first + (to + 1) * width + i * width) digits =
    λ i lt. let e : first + to * width + suc i * width ≡ first + (to + 1) * width + i * width = grind arith in each (suc i) (omega (arith, lt)) ∙ ap (λ b. field width b digits) e in
    sym (append_assoc (pieces width first to digits) (x ∷ []) xs)
    ∙ ap (λ y. (pieces width first to digits ++ y ∷ []) ++ xs) here
    ∙ ap (λ ys. ys ++ xs) (sym (pieces-more width first to digits))
    ∙ more-pieces xs digits first width (to + 1) next
    ∙ ap (λ n. pieces width first n digits) (omega arith)

pub four-filled : (bytes ids new lanes : List ℕ) (at bit first width to : ℕ) → length lanes ≡ 4 → ((i : ℕ) → i < 4 → get_or lanes i 0 ≡ field width (8 * at + (bit + i * width)) (bits_of 8 bytes)) → 8 * at + bit ≡ first + to * width
    → take (to + 4) new ≡ take to ids ++ lanes → IsFilled first width to (bits_of 8 bytes) ids → IsFilled first width (to + 4) (bits_of 8 bytes) new
four-filled bytes ids new lanes at bit first width to four each place is so_far = record {
  filled =
      is
      ∙ ap (λ xs. xs ++ lanes) so_far.filled
      ∙ more-pieces lanes (bits_of 8 bytes) first width to (λ i lt. each i (omega (arith, lt, four)) ∙ ap (λ b. field width b (bits_of 8 bytes)) (omega (arith, place)))
      ∙ ap (λ n. pieces width first (to + n) (bits_of 8 bytes)) four;
}
