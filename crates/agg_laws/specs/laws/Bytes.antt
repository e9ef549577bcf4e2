-- Sixteen bytes are read as the number that they were written from, and written as they were read.
use Rattle.std.proofs.Common.{◌≡◌, ℕ, zero, suc, ◌+◌, ◌*◌, ◌/◌, ◌%◌, ◌^◌, ◌<◌, List, [], ◌∷◌, ◌++◌}
use Rattle.std.proofs.Common.{length, get_or, take, drop, subst, refl, sym, ap, ◌∙◌, arith}
use Rattle.std.specs.Int.{w64, w128, to_be_bytes, from_be_bytes}
use Rattle.std.proofs.lemmas.Nat.{be_bytes_8, from_be_bytes-to_be_bytes_8}
use Rattle.std.proofs.lemmas.List.{get_or-take, get_or-drop, length-take-le, length-drop}
use Rattle.std.proofs.lemmas.List.{take-append-drop}

-- the bytes of a number are those of its halves
halves : (hi lo : ℕ) → lo < 2 ^ 64 → to_be_bytes w128 (hi * 2 ^ 64 + lo) ≡ to_be_bytes w64 hi
    ++ to_be_bytes w64 lo
halves hi lo h =
    let n : ℕ = hi * 2 ^ 64 + lo in
    let b15 : n / 1329227995784915872903807060280344576 % 256
    ≡ hi / 72057594037927936 % 256 = ap (λ m. m % 256) (omega arith) in
    let b14 : n / 5192296858534827628530496329220096 % 256
    ≡ hi / 281474976710656 % 256 = ap (λ m. m % 256) (omega arith) in
    let b13 : n / 20282409603651670423947251286016 % 256
    ≡ hi / 1099511627776 % 256 = ap (λ m. m % 256) (omega arith) in
    let b12 : n / 79228162514264337593543950336 % 256
    ≡ hi / 4294967296 % 256 = ap (λ m. m % 256) (omega arith) in
    let b11 : n / 309485009821345068724781056 % 256
    ≡ hi / 16777216 % 256 = ap (λ m. m % 256) (omega arith) in
    let b10 : n / 1208925819614629174706176 % 256
    ≡ hi / 65536 % 256 = ap (λ m. m % 256) (omega arith) in
    let b9 : n / 4722366482869645213696 % 256 ≡ hi / 256 % 256 = ap (λ m. m % 256) (omega arith) in
    let b8 : n / 18446744073709551616 % 256 ≡ hi % 256 = ap (λ m. m % 256) (omega arith) in
    let q7 : n / 72057594037927936 ≡ hi * 256 + lo / 72057594037927936 = omega arith in
    let b7 : n / 72057594037927936 % 256 ≡ lo / 72057594037927936 % 256 = omega (arith, q7) in
    let q6 : n / 281474976710656 ≡ hi * 65536 + lo / 281474976710656 = omega arith in
    let b6 : n / 281474976710656 % 256 ≡ lo / 281474976710656 % 256 = omega (arith, q6) in
    let q5 : n / 1099511627776 ≡ hi * 16777216 + lo / 1099511627776 = omega arith in
    let b5 : n / 1099511627776 % 256 ≡ lo / 1099511627776 % 256 = omega (arith, q5) in
    let q4 : n / 4294967296 ≡ hi * 4294967296 + lo / 4294967296 = omega arith in
    let b4 : n / 4294967296 % 256 ≡ lo / 4294967296 % 256 = omega (arith, q4) in
    let q3 : n / 16777216 ≡ hi * 1099511627776 + lo / 16777216 = omega arith in
    let b3 : n / 16777216 % 256 ≡ lo / 16777216 % 256 = omega (arith, q3) in
    let q2 : n / 65536 ≡ hi * 281474976710656 + lo / 65536 = omega arith in
    let b2 : n / 65536 % 256 ≡ lo / 65536 % 256 = omega (arith, q2) in
    let q1 : n / 256 ≡ hi * 72057594037927936 + lo / 256 = omega arith in
    let b1 : n / 256 % 256 ≡ lo / 256 % 256 = omega (arith, q1) in
    let b0 : n % 256 ≡ lo % 256 = omega arith in
    λ i. b15 i ∷ b14 i ∷ b13 i ∷ b12 i ∷ b11 i ∷ b10 i ∷ b9 i ∷ b8 i ∷ b7 i ∷ b6 i ∷ b5 i ∷ b4 i
    ∷ b3 i ∷ b2 i ∷ b1 i ∷ b0 i ∷ []

-- sixteen bytes are worth what their halves are
worth : (bs : List ℕ) → from_be_bytes w128 bs ≡ from_be_bytes w64 (take 8 bs) * 2 ^ 64
    + from_be_bytes w64 (drop 8 bs)
worth bs =
    let h0 : get_or (take 8 bs) 0 0 ≡ get_or bs 0 0 = get_or-take 8 bs 0 0 (omega arith) in
    let h1 : get_or (take 8 bs) 1 0 ≡ get_or bs 1 0 = get_or-take 8 bs 1 0 (omega arith) in
    let h2 : get_or (take 8 bs) 2 0 ≡ get_or bs 2 0 = get_or-take 8 bs 2 0 (omega arith) in
    let h3 : get_or (take 8 bs) 3 0 ≡ get_or bs 3 0 = get_or-take 8 bs 3 0 (omega arith) in
    let h4 : get_or (take 8 bs) 4 0 ≡ get_or bs 4 0 = get_or-take 8 bs 4 0 (omega arith) in
    let h5 : get_or (take 8 bs) 5 0 ≡ get_or bs 5 0 = get_or-take 8 bs 5 0 (omega arith) in
    let h6 : get_or (take 8 bs) 6 0 ≡ get_or bs 6 0 = get_or-take 8 bs 6 0 (omega arith) in
    let h7 : get_or (take 8 bs) 7 0 ≡ get_or bs 7 0 = get_or-take 8 bs 7 0 (omega arith) in
    let l0 : get_or (drop 8 bs) 0 0 ≡ get_or bs 8 0 = get_or-drop 8 bs 0 0 in
    let l1 : get_or (drop 8 bs) 1 0 ≡ get_or bs 9 0 = get_or-drop 8 bs 1 0 in
    let l2 : get_or (drop 8 bs) 2 0 ≡ get_or bs 10 0 = get_or-drop 8 bs 2 0 in
    let l3 : get_or (drop 8 bs) 3 0 ≡ get_or bs 11 0 = get_or-drop 8 bs 3 0 in
    let l4 : get_or (drop 8 bs) 4 0 ≡ get_or bs 12 0 = get_or-drop 8 bs 4 0 in
    let l5 : get_or (drop 8 bs) 5 0 ≡ get_or bs 13 0 = get_or-drop 8 bs 5 0 in
    let l6 : get_or (drop 8 bs) 6 0 ≡ get_or bs 14 0 = get_or-drop 8 bs 6 0 in
    let l7 : get_or (drop 8 bs) 7 0 ≡ get_or bs 15 0 = get_or-drop 8 bs 7 0 in
    omega arith

-- what was written is read
pub from_be_bytes-to_be_bytes_16 : (n : ℕ) → n < 2 ^ 128 → from_be_bytes w128 (to_be_bytes w128 n)
    ≡ n
from_be_bytes-to_be_bytes_16 n fits =
    let hi : ℕ = n / 18446744073709551616 in
    let lo : ℕ = n % 18446744073709551616 in
    let is : hi * 2 ^ 64 + lo ≡ n = omega arith in
    let lt : lo < 2 ^ 64 = omega arith in
    ap (λ m. from_be_bytes w128 (to_be_bytes w128 m)) (sym is)
    ∙ ap (from_be_bytes w128) (halves hi lo lt)
    ∙ worth (to_be_bytes w64 hi ++ to_be_bytes w64 lo)
    ∙ (λ i. from_be_bytes-to_be_bytes_8 hi (omega arith) i * 2 ^ 64
    + from_be_bytes-to_be_bytes_8 lo lt i) ∙ is

-- eight bytes are a number of 64 bits
below : (bs : List ℕ) → ((i : ℕ) → get_or bs i 0 < 256) → from_be_bytes w64 bs < 2 ^ 64
below bs small = omega
    (arith, small 0, small 1, small 2, small 3, small 4, small 5, small 6, small 7)

-- sixteen bytes are one of 128 bits
pub below_16 : (bs : List ℕ) → ((i : ℕ) → get_or bs i 0 < 256) → from_be_bytes w128 bs < 2 ^ 128
below_16 bs small =
    omega (
      arith,
      small 0,
      small 1,
      small 2,
      small 3,
      small 4,
      small 5,
      small 6,
      small 7,
      small 8,
      small 9,
      small 10,
      small 11,
      small 12,
      small 13,
      small 14,
      small 15,
    )

-- a front of bytes is of bytes
pub small_take : (n : ℕ) (bs : List ℕ) → ((i : ℕ) → get_or bs i 0 < 256) → (i : ℕ)
    → get_or (take n bs) i 0 < 256
small_take zero bs small i = omega arith
small_take (suc n) [] small i = omega arith
small_take (suc n) (b ∷ bs) small zero = small 0
small_take (suc n) (b ∷ bs) small (suc i) = small_take n bs (λ j. small (suc j)) i

-- what was read is written
pub be_bytes_16 : (bs : List ℕ) → length bs ≡ 16 → ((i : ℕ) → get_or bs i 0 < 256)
    → to_be_bytes w128 (from_be_bytes w128 bs) ≡ bs
be_bytes_16 bs l small =
    let hi : List ℕ = take 8 bs in
    let lo : List ℕ = drop 8 bs in
    let small_lo : (i : ℕ)
    → get_or lo i 0 < 256 =
    λ i. subst (λ b. b < 256) (sym (get_or-drop 8 bs i 0)) (small (8 + i)) in
    let small_hi : (i : ℕ) → get_or hi i 0 < 256 = small_take 8 bs small in
    ap (to_be_bytes w128) (worth bs)
    ∙ halves (from_be_bytes w64 hi) (from_be_bytes w64 lo) (below lo small_lo)
    ∙ (λ i. be_bytes_8 hi _ (length-take-le 8 bs (omega arith)) small_hi refl i
    ++ be_bytes_8 lo _ (omega (arith, length-drop 8 bs)) small_lo refl i)
    ∙ take-append-drop 8 bs
