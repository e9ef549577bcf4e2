-- Masks: one more bit.
use Rattle.std.proofs.Common.{◌≡◌, ◌∙◌, ◌<◌, ◌*◌, ◌/◌, ◌%◌, ◌^◌, ℕ, Bool, true, false, ◌||◌, List, [], ◌∷◌, ◌++◌, length, set, get_or, nat_eq, bit_or, refl, sym, ap, arith, eq-eqb, w64}
use Rattle.std.proofs.lemmas.Bool.{eqb-true, eqb-false, ne_eqb}
use Rattle.std.proofs.lemmas.List.{get_or-set_other, get_or-set_same}
use Rattle.std.proofs.lemmas.Grind.{get_or_default_zero}
use Rattle.std.proofs.lemmas.List.Folds.{list_any-append}
use Rattle.std.proofs.lemmas.Nat.Bits.{bit_at-zero, bit_at_set_other, bit_at_set_same}
use Rattle.std.specs.Int.{bit_at}
use Rattle.value_ids.specs.Ids.{has_bit, has_id, IsIdSet, IsMaskedSet, SameBits}
use Rattle.value_ids.proofs.Found.{no_ids}

-- ---- one more bit

word_bit : (n k i : ℕ) (t : Bool) → k < 64 → nat_eq i k ≡ t → nat_eq (bit_at (bit_or n (1 * 2 ^ k % 18446744073709551616)) i) 1 ≡ t || nat_eq (bit_at n i) 1
word_bit n k i true within e =
    ap (λ j. nat_eq (bit_at (bit_or n (1 * 2 ^ k % 18446744073709551616)) j) 1) (eqb-true i k e) ∙ eq-eqb (bit_at (bit_or n (1 * 2 ^ k % 18446744073709551616)) k) 1 (bit_at_set_same w64 n k within)
word_bit n k i false within e = ap (λ b. nat_eq b 1) (bit_at_set_other w64 n k within i (eqb-false i k e))

same_place : (q id : ℕ) (t : Bool) → q / 64 ≡ id / 64 → nat_eq q id ≡ t → nat_eq (q % 64) (id % 64) ≡ t
same_place q id true word e = eq-eqb (q % 64) (id % 64) (ap (λ n. n % 64) (eqb-true q id e))
same_place q id false word e = ne_eqb (q % 64) (id % 64) (λ same. eqb-false q id e (let whole : q ≡ id = omega (arith, word, same) in whole))

pub set_by : (mask : List ℕ) (id q : ℕ) (t : Bool) → id / 64 < length mask → nat_eq (q / 64) (id / 64) ≡ t
    → has_bit (set mask (id / 64) (bit_or (get_or mask (id / 64) 0) (1 * 2 ^ (id % 64) % 18446744073709551616))) q ≡ nat_eq q id || has_bit mask q
set_by mask id q true room e =
    let word : q / 64 ≡ id / 64 = eqb-true (q / 64) (id / 64) e in
    let new : ℕ = bit_or (get_or mask (id / 64) 0) (1 * 2 ^ (id % 64) % 18446744073709551616) in
    let within : id % 64 < 64 = omega arith in
    ap (λ x. nat_eq (bit_at x (q % 64)) 1) (ap (λ w. get_or (set mask (id / 64) new) w 0) word ∙ get_or-set_same mask (id / 64) new 0 room)
    ∙ word_bit (get_or mask (id / 64) 0) (id % 64) (q % 64) (nat_eq q id) within (same_place q id (nat_eq q id) word refl)
    ∙ ap (λ w. nat_eq q id || nat_eq (bit_at (get_or mask w 0) (q % 64)) 1) (sym word)
set_by mask id q false room e =
    let new : ℕ = bit_or (get_or mask (id / 64) 0) (1 * 2 ^ (id % 64) % 18446744073709551616) in
    ap (λ x. nat_eq (bit_at x (q % 64)) 1) (get_or-set_other mask (id / 64) (q / 64) new 0 (eqb-false (q / 64) (id / 64) e))
    ∙ ap (λ b. b || has_bit mask q) (sym (ne_eqb q id (λ same. eqb-false (q / 64) (id / 64) e (ap (λ n. n / 64) same))))

pub one_bit : (mask : List ℕ) (id q old : ℕ) → id / 64 < length mask → old ≡ get_or mask (id / 64) old
    → has_bit (set mask (id / 64) (bit_or old (1 * 2 ^ (id % 64) % 18446744073709551616))) q ≡ nat_eq q id || has_bit mask q
one_bit mask id q old room is =
    ap (λ w. has_bit (set mask (id / 64) (bit_or w (1 * 2 ^ (id % 64) % 18446744073709551616))) q) (is ∙ get_or_default_zero mask (id / 64) old room) ∙ set_by mask id q (nat_eq (q / 64) (id / 64)) room refl

-- ---- sets with a mask

pub or_turn : (a b : Bool) → a || b ≡ b || a
or_turn true true = refl
or_turn true false = refl
or_turn false true = refl
or_turn false false = refl

pub or_none : (a : Bool) → a || false ≡ a
or_none true = refl
or_none false = refl

pub has_pushed : (ids : List ℕ) (id q : ℕ) → has_id (ids ++ id ∷ []) q ≡ nat_eq q id || has_id ids q
has_pushed ids id q = list_any-append (nat_eq q) ids (id ∷ []) ∙ ap (λ b. has_id ids q || b) (or_none (nat_eq q id)) ∙ or_turn (has_id ids q) (nat_eq q id)

pub masked_more : (ids new mask mask' mask'' : List ℕ) (id : ℕ) → IsMaskedSet ids mask → IsIdSet new → new ≡ ids ++ id ∷ [] → SameBits mask mask' → ((q : ℕ) → has_bit mask'' q ≡ nat_eq q id || has_bit mask' q) → IsMaskedSet new mask''
masked_more ids new mask mask' mask'' id old stands is same one = record {
  stands = stands;
  masked = (λ q. one q ∙ ap (λ b. nat_eq q id || b) (same q ∙ old.masked q) ∙ sym (has_pushed ids id q) ∙ ap (λ xs. has_id xs q) (sym is));
}

pub no_mask : IsMaskedSet [] []
no_mask = record { stands = no_ids; masked = (λ q. ap (λ n. nat_eq n 1) (bit_at-zero (q % 64))) }
