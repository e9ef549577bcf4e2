-- Eight ids in a vector, out of the three bytes of each.
use Rattle.std.proofs.Common.{◌≡◌, ◌∙◌, ◌<◌, ◌≤◌, ◌+◌, ◌-◌, ◌*◌, ◌/◌, ◌%◌, ◌^◌, ◌∷◌, [], ℕ, zero, suc, List, length, take, drop, get_or, replicate, refl, ap, ap₂, sym, subst, arith, w8, bit_and}
use lib.Lanes.{zip2, number_l, digits_l, Each1}
use Rattle.std.proofs.lemmas.Simd.{length-swz_l, length-zip2, get_or_wider, Each1-from_get_or}
use Rattle.std.proofs.lemmas.Nat.{and_mask, field_of, shl-shr, shr-shr}
use Rattle.bit_column.specs.Bits.{bits, bits_of, field}
use Rattle.bit_column.specs.Unpacked.{AreEightFactors, AreEightPositions, AreLastPositions}
use Rattle.bit_column.proofs.EightSteps.{two_at}
use Rattle.bit_column.proofs.Fields.{bits-three, field-bytes}
use Rattle.bit_column.proofs.LaneSteps.{picked, picked-at}
use Rattle.bit_column.proofs.Windows.{field-window}

-- the first two bytes of three and the last one, each moved up
joined : (x s : ℕ) → s < 8 → (x / 256 * 2 ^ s % 65536 + x % 256 * 2 ^ s % 65536 / 256) % 65536 ≡ x * 2 ^ s / 256 % 65536
joined x zero lt = omega arith
joined x (suc zero) lt = omega arith
joined x (suc (suc zero)) lt = omega arith
joined x (suc (suc (suc zero))) lt = omega arith
joined x (suc (suc (suc (suc zero)))) lt = omega arith
joined x (suc (suc (suc (suc (suc zero))))) lt = omega arith
joined x (suc (suc (suc (suc (suc (suc zero)))))) lt = omega arith
joined x (suc (suc (suc (suc (suc (suc (suc zero))))))) lt = omega arith
joined x (suc (suc (suc (suc (suc (suc (suc (suc s)))))))) lt = absurd (omega (arith, lt))

moved : (x s width : ℕ) → s < 8 → width ≤ 14 → (x / 256 * 2 ^ s % 2 ^ 16 + x % 256 * 2 ^ s % 2 ^ 16 / 2 ^ 8) % 2 ^ 16 / 2 ^ (16 - width) ≡ x / 2 ^ (24 - width - s) % 2 ^ width
moved x s width low narrow =
    let whole : 16 ≡ width + (16 - width) = omega (arith, narrow) in
    let parts : 8 + (16 - width) ≡ s + (24 - width - s) = omega (arith, low, narrow) in
    ap (λ n. n / 2 ^ (16 - width)) (joined x s low)
    ∙ ap (λ m. x * 2 ^ s / 2 ^ 8 % 2 ^ m / 2 ^ (16 - width)) whole
    ∙ field_of (x * 2 ^ s / 2 ^ 8) width (16 - width)
    ∙ ap (λ n. n % 2 ^ width) (shr-shr (x * 2 ^ s) 8 (16 - width) ∙ ap (λ k. x * 2 ^ s / 2 ^ k) parts ∙ sym (shr-shr (x * 2 ^ s) s (24 - width - s)) ∙ ap (λ y. y / 2 ^ (24 - width - s)) (shl-shr x s))

-- the three bytes of an id are the number of its bits
module _ (bytes : List ℕ) (at p : ℕ) (within : at + p + 3 ≤ length bytes) (small : (k : ℕ) → get_or bytes k 0 < 2 ^ 8) where
  found : (two third s width : ℕ) → s < 8 → width ≤ 14 → two ≡ get_or bytes (at + p + 1) 0 + 256 * get_or bytes (at + p) 0 → third ≡ get_or bytes (at + p + 2) 0
      → (two * 2 ^ s % 2 ^ 16 + third * 2 ^ s % 2 ^ 16 / 2 ^ 8) % 2 ^ 16 / 2 ^ (16 - width) ≡ field width (8 * (at + p) + s) (bits_of 8 bytes)
  found two third s width low narrow is last =
      let x : ℕ = two * 256 + third in
      let small_third : third < 256 = omega (arith, last, small (at + p + 2)) in
      let high : x / 256 ≡ two = omega (arith, small_third) in
      let rest : x % 256 ≡ third = omega (arith, small_third) in
      let whole = bits-three x (at + p) bytes within small (omega (arith, is, last)) in
      let cut : 24 ≡ s + width + (24 - width - s) = omega (arith, low, narrow) in
      let first : s ≡ 8 * (at + p) + s - (at + p) * 8 = omega arith in
      ap₂ (λ (a b : ℕ). (a * 2 ^ s % 2 ^ 16 + b * 2 ^ s % 2 ^ 16 / 2 ^ 8) % 2 ^ 16 / 2 ^ (16 - width)) (sym high) (sym rest)
      ∙ moved x s width low narrow
      ∙ sym (field-window width s (24 - width - s) x (bits_of 8 (take 3 (drop (at + p) bytes))) (sym whole ∙ ap (λ n. bits n x) cut))
      ∙ ap (λ b. field width b (bits_of 8 (take 3 (drop (at + p) bytes)))) first
      ∙ field-bytes width (8 * (at + p) + s) (at + p) 3 bytes (omega arith) (omega (arith, low, narrow))

-- two bytes that are picked for a lane
two-picked : (bytes : List ℕ) (at : ℕ) (positions : List ℕ) (q : ℕ → ℕ) → length positions ≡ 16 → ((m : ℕ) → m < 16 → get_or positions m 0 ≡ q m) → ((m : ℕ) → m < 16 → q m < 16) → ((k : ℕ) → get_or bytes k 0 < 2 ^ 8)
    → (i : ℕ) → i < 8 → get_or (digits_l 65536 8 (number_l 256 (picked bytes at positions))) i 0 ≡ get_or bytes (at + q (2 * i)) 0 + 256 * get_or bytes (at + q (2 * i + 1)) 0
two-picked bytes at positions q long each below small i lt =
    let S : List ℕ = picked bytes at positions in
    let size : length S ≡ 16 = length-swz_l w8 16 (take 16 (drop at bytes)) 0 (zip2 bit_and positions (replicate 16 15)) ∙ length-zip2 bit_and positions (replicate 16 15) long ∙ long in
    let fits : Each1 (λ x. x < 256) S = Each1-from_get_or (λ x. x < 256) S 0 (λ m within.
    let m_below : m < 16 = omega (arith, within, size) in
    subst (λ x. x < 256) (sym (picked-at bytes at positions m (q m) long m_below (each m m_below) (below m m_below))) (small (at + q m))) in
    let even : 2 * i < 16 = omega (arith, lt) in
    let odd : 2 * i + 1 < 16 = omega (arith, lt) in
    let two : take 2 (drop (2 * i) S) ≡ get_or S (2 * i) 0 ∷ get_or S (2 * i + 1) 0 ∷ [] = two_at S (2 * i) (omega (arith, size, lt)) in
    let word = get_or_wider 256 2 65536 8 S i refl fits lt ∙ ap (number_l 256) two in
    let a = picked-at bytes at positions (2 * i) (q (2 * i)) long even (each (2 * i) even) (below (2 * i) even) in
    let b = picked-at bytes at positions (2 * i + 1) (q (2 * i + 1)) long odd (each (2 * i + 1) odd) (below (2 * i + 1) odd) in
    omega (arith, word, a, b)

near : (bit width m : ℕ) → bit < 8 → width ≤ 14 → m < 16 → (bit + m / 2 * width) / 8 < 14
near bit width m low narrow lt =
    let row : m / 2 < 8 = omega (arith, lt) in
    let far : bit + m / 2 * width ≤ 105 = grind (arith, low, narrow, row) in
    omega (arith, far)

-- one lane
pub long-lane : (bytes : List ℕ) (at bit width : ℕ) (positions last factors : List ℕ) (i : ℕ) → at + 16 ≤ length bytes → bit < 8 → width ≤ 14 → i < 8 → ((k : ℕ) → get_or bytes k 0 < 2 ^ 8)
    → AreEightPositions bit width positions → AreLastPositions bit width last → AreEightFactors bit width factors
    → (get_or (digits_l 65536 8 (number_l 256 (picked bytes at positions))) i 0 * get_or factors i 0 % 2 ^ 16 + bit_and (get_or (digits_l 65536 8 (number_l 256 (picked bytes at last))) i 0) 255 * get_or factors i 0 % 2 ^ 16 / 2 ^ 8) % 2 ^ 16 / 2 ^ (16 - width) ≡ field width (8 * at + (bit + i * width)) (bits_of 8 bytes)
long-lane bytes at bit width positions last factors i there low narrow lt small places ends moves =
    let first : ℕ = bit + i * width in
    let p : ℕ = first / 8 in
    let s : ℕ = first % 8 in
    let q : ℕ → ℕ = λ m. (bit + m / 2 * width) / 8 + 1 - m % 2 in
    let r : ℕ → ℕ = λ m. (bit + m / 2 * width) / 8 + 2 in
    let far : first ≤ 105 = grind (arith, low, narrow, lt) in
    let half : 2 * i / 2 ≡ i = omega arith in
    let half_more : (2 * i + 1) / 2 ≡ i = omega arith in
    let even : 2 * i % 2 ≡ 0 = omega arith in
    let odd : (2 * i + 1) % 2 ≡ 1 = omega arith in
    let q_even : q (2 * i) ≡ p + 1 = ap₂ (λ (h l : ℕ). (bit + h * width) / 8 + 1 - l) half even ∙ omega arith in
    let q_odd : q (2 * i + 1) ≡ p = ap₂ (λ (h l : ℕ). (bit + h * width) / 8 + 1 - l) half_more odd ∙ omega arith in
    let r_even : r (2 * i) ≡ p + 2 = ap (λ (h : ℕ). (bit + h * width) / 8 + 2) half in
    let r_odd : r (2 * i + 1) ≡ p + 2 = ap (λ (h : ℕ). (bit + h * width) / 8 + 2) half_more in
    let each_q : (m : ℕ) → m < 16 → get_or positions m 0 ≡ q m = λ m below.
    let parts : m ≡ 2 * (m / 2) + m % 2 = omega arith in
    ap (λ k. get_or positions k 0) parts ∙ places.each (m / 2) (m % 2) (omega (arith, below)) (omega arith) in
    let two = two-picked bytes at positions q places.long each_q (λ m below. omega (arith, near bit width m low narrow below)) small i lt in
    let three = two-picked bytes at last r ends.long ends.each (λ m below. omega (arith, near bit width m low narrow below)) small i lt in
    let A : ℕ = get_or (digits_l 65536 8 (number_l 256 (picked bytes at positions))) i 0 in
    let B : ℕ = get_or (digits_l 65536 8 (number_l 256 (picked bytes at last))) i 0 in
    let second_at : at + q (2 * i) ≡ at + p + 1 = ap (λ k. at + k) q_even ∙ omega arith in
    let first_at : at + q (2 * i + 1) ≡ at + p = ap (λ k. at + k) q_odd in
    let third_at : at + r (2 * i) ≡ at + p + 2 = ap (λ k. at + k) r_even ∙ omega arith in
    let third_too : at + r (2 * i + 1) ≡ at + p + 2 = ap (λ k. at + k) r_odd ∙ omega arith in
    let is_two : A ≡ get_or bytes (at + p + 1) 0 + 256 * get_or bytes (at + p) 0 = two ∙ ap₂ (λ (j k : ℕ). get_or bytes j 0 + 256 * get_or bytes k 0) second_at first_at in
    let is_three : B ≡ get_or bytes (at + p + 2) 0 + 256 * get_or bytes (at + p + 2) 0 = three ∙ ap₂ (λ (j k : ℕ). get_or bytes j 0 + 256 * get_or bytes k 0) third_at third_too in
    let is_third : bit_and B 255 ≡ get_or bytes (at + p + 2) 0 = and_mask B 8 ∙ omega (arith, is_three, small (at + p + 2)) in
    let place : 8 * (at + p) + s ≡ 8 * at + first = omega arith in
    ap (λ f. (A * f % 2 ^ 16 + bit_and B 255 * f % 2 ^ 16 / 2 ^ 8) % 2 ^ 16 / 2 ^ (16 - width)) (moves.each i lt)
    ∙ found bytes at p (omega (arith, there, far)) small A (bit_and B 255) s width (omega arith) narrow is_two is_third
    ∙ ap (λ b. field width b (bits_of 8 bytes)) place
