-- Tests on lanes.
use Rattle.std.proofs.Common.{◌≡◌, ◌∙◌, ◌<◌, ◌+◌, ◌-◌, ◌%◌, ◌^◌, ℕ, Bool, false, cond, eqb, leb, List, map, length, get_or, replicate, ap, arith, inl, inr, w16, w32}
use lib.Lanes.{zip2, mask_l, top}
use Rattle.std.specs.Int.{bit_at}
use Rattle.std.proofs.lemmas.Simd.{bitmask_splat, zip2_splat, bit_mask_l}
use Rattle.std.proofs.lemmas.List.{get_or-map, length-map}
use Rattle.std.proofs.lemmas.Bool.{cases_lt}
use Rattle.std.proofs.lemmas.Bool.Decides.{nat_tests}
use Rattle.coded_scan.specs.Marks.{is_between}

-- how far an id is past the first of a run, where numbers wrap
abbrev pub past : ℕ → ℕ → ℕ
past a first = (a + (4294967296 - first)) % 4294967296

abbrev pub past_narrow : ℕ → ℕ → ℕ
past_narrow a first = (a + (65536 - first)) % 65536

pub between-past : (a first more : ℕ) → a < 2 ^ 32 → first + more < 2 ^ 32 → leb (past a first) more ≡ is_between first (first + more) a
between-past a first more small fits = elim (cases_lt a first) [
  | inl less ↦ let far : past a first ≡ a + 4294967296 - first = omega (arith, less, small) in grind (arith, nat_tests)
  | inr not_less ↦ let near : past a first ≡ a - first = omega (arith, not_less, small) in grind (arith, nat_tests)
]

pub between-past_narrow : (a first more : ℕ) → a < 2 ^ 16 → first + more < 2 ^ 16 → leb (past_narrow a first) more ≡ is_between first (first + more) a
between-past_narrow a first more small fits = elim (cases_lt a first) [
  | inl less ↦ let far : past_narrow a first ≡ a + 65536 - first = omega (arith, less, small) in grind (arith, nat_tests)
  | inr not_less ↦ let near : past_narrow a first ≡ a - first = omega (arith, not_less, small) in grind (arith, nat_tests)
]

lane-bit : (p : ℕ → Bool) (f : ℕ → ℕ) (v : List ℕ) (i : ℕ) → i < length v → bit_at (mask_l (map p (map f v))) i ≡ cond (p (f (get_or v i 0))) 1 0
lane-bit p f v i lt =
    bit_mask_l (map p (map f v)) i
    ∙ ap (λ b. cond b 1 0) (get_or-map p (map f v) i 0 false (omega (arith, length-map v f, lt)))
    ∙ ap (λ x. cond (p x) 1 0) (get_or-map f v i 0 0 lt)

pub run-lanes : (v : List ℕ) (first more i : ℕ) → length v ≡ 64 → i < 64 → get_or v i 0 < 2 ^ 32 → first + more < 2 ^ 32
    → bit_at (mask_l (map (top 31) (zip2 (λ a b. cond (leb a b) 4294967295 0) (zip2 past v (replicate 64 first)) (replicate 64 more))) % 2 ^ 64) i ≡ cond (is_between first (first + more) (get_or v i 0)) 1 0
run-lanes v first more i long lt small fits =
    let f : ℕ → ℕ = λ a. past a first in
    ap (λ xs. bit_at (mask_l (map (top 31) (zip2 (λ a b. cond (leb a b) 4294967295 0) xs (replicate 64 more))) % 2 ^ 64) i) (zip2_splat past v 64 first long)
    ∙ ap (λ n. bit_at n i) (bitmask_splat w32 leb (map f v) 64 more (length-map v f ∙ long) (omega arith))
    ∙ lane-bit (λ x. leb x more) f v i (omega (arith, long, lt))
    ∙ ap (λ b. cond b 1 0) (between-past (get_or v i 0) first more small fits)

pub run-lanes_narrow : (v : List ℕ) (first more i : ℕ) → length v ≡ 64 → i < 64 → get_or v i 0 < 2 ^ 16 → first + more < 2 ^ 16
    → bit_at (mask_l (map (top 15) (zip2 (λ a b. cond (leb a b) 65535 0) (zip2 past_narrow v (replicate 64 first)) (replicate 64 more))) % 2 ^ 64) i ≡ cond (is_between first (first + more) (get_or v i 0)) 1 0
run-lanes_narrow v first more i long lt small fits =
    let f : ℕ → ℕ = λ a. past_narrow a first in
    ap (λ xs. bit_at (mask_l (map (top 15) (zip2 (λ a b. cond (leb a b) 65535 0) xs (replicate 64 more))) % 2 ^ 64) i) (zip2_splat past_narrow v 64 first long)
    ∙ ap (λ n. bit_at n i) (bitmask_splat w16 leb (map f v) 64 more (length-map v f ∙ long) (omega arith))
    ∙ lane-bit (λ x. leb x more) f v i (omega (arith, long, lt))
    ∙ ap (λ b. cond b 1 0) (between-past_narrow (get_or v i 0) first more small fits)

-- an id is the only one of a run
between-same : (a first more : ℕ) → more ≡ 0 → eqb a first ≡ is_between first (first + more) a
between-same a first more none = grind (arith, nat_tests)

same-bit : (v : List ℕ) (first more i : ℕ) → length v ≡ 64 → i < 64 → more ≡ 0 → bit_at (mask_l (map (λ x. eqb x first) v)) i ≡ cond (is_between first (first + more) (get_or v i 0)) 1 0
same-bit v first more i long lt none =
    bit_mask_l (map (λ x. eqb x first) v) i
    ∙ ap (λ b. cond b 1 0) (get_or-map (λ x. eqb x first) v i 0 false (omega (arith, long, lt)))
    ∙ ap (λ b. cond b 1 0) (between-same (get_or v i 0) first more none)

pub same-lanes : (v : List ℕ) (first more i : ℕ) → length v ≡ 64 → i < 64 → more ≡ 0
    → bit_at (mask_l (map (top 31) (zip2 (λ a b. cond (eqb a b) 4294967295 0) v (replicate 64 first))) % 2 ^ 64) i ≡ cond (is_between first (first + more) (get_or v i 0)) 1 0
same-lanes v first more i long lt none =
    ap (λ n. bit_at n i) (bitmask_splat w32 eqb v 64 first long (omega arith))
    ∙ same-bit v first more i long lt none

pub same-lanes_narrow : (v : List ℕ) (first more i : ℕ) → length v ≡ 64 → i < 64 → more ≡ 0
    → bit_at (mask_l (map (top 15) (zip2 (λ a b. cond (eqb a b) 65535 0) v (replicate 64 first))) % 2 ^ 64) i ≡ cond (is_between first (first + more) (get_or v i 0)) 1 0
same-lanes_narrow v first more i long lt none =
    ap (λ n. bit_at n i) (bitmask_splat w16 eqb v 64 first long (omega arith))
    ∙ same-bit v first more i long lt none
