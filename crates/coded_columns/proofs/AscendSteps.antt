-- Places that ascend.
use Rattle.std.proofs.Common.{◌≡◌, ◌∙◌, ◌<◌, ◌≤◌, ◌+◌, ◌-◌, ◌++◌, ◌∷◌, [], ℕ, Bool, true, false, cond, nat_eq, append-nil, subst, zero, suc, List, length, get_or, take, drop, ap, sym, arith, inl, inr}
use Rattle.std.proofs.lemmas.Bool.{cases_lt, eqb-true}
use Rattle.std.proofs.lemmas.List.{get_or-drop, get_or-take, get_or_append_left, get_or_push, length-drop, length-take-le, length_push}
use Rattle.std.specs.Bool.{OnTrue}
use Rattle.value_ids.specs.Coding.{AreBelow}
use Rattle.coded_columns.specs.Packing.{AreAfter, Ascend}

-- a place that is so many further in the list is as many greater, or more
ascends-by : (places : List ℕ) → Ascend places → (j d : ℕ) → j + d < length places → get_or places j 0 + d ≤ get_or places (j + d) 0
ascends-by places up j zero lt =
    let here : j + zero ≡ j = omega arith in
    omega (arith, ap (λ i. get_or places i 0) here)
ascends-by places up j (suc d) lt =
    omega (arith, ascends-by places up j d (omega (arith, lt)), up (j + d) (j + suc d) (omega arith) lt)

-- where the last place is as far from the first as there are others, each follows the one before
follow-all : (places : List ℕ) (last : ℕ) → Ascend places → length places ≡ last + 1 → get_or places last 0 ≡ get_or places 0 0 + last → AreAfter places (get_or places 0 0)
follow-all places last up many ends = λ k lt.
    let rest : ℕ = last - k in
    let here : k + rest ≡ last = omega (arith, lt, many) in
    let before : 0 + k ≡ k = omega arith in
    omega (
      arith,
      ascends-by places up 0 k (omega (arith, lt)),
      ap (λ i. get_or places i 0) before,
      ascends-by places up k rest (omega (arith, lt, many)),
      ap (λ i. get_or places i 0) here,
      ends,
      here,
    )

pub follow-told : (places : List ℕ) (last : ℕ) (told : Bool) → told ≡ nat_eq (get_or places last 0) (get_or places 0 0 + last) → Ascend places → length places ≡ last + 1 → OnTrue told (AreAfter places (get_or places 0 0))
follow-told places last true is up many = follow-all places last up many (eqb-true (get_or places last 0) (get_or places 0 0 + last) (sym is))
follow-told places last false is up many = tt

pub ascend-none : Ascend []
ascend-none = λ j k lt k_lt. absurd (omega (arith, k_lt))

-- one place more, after all of them
pub ascend-push : (places : List ℕ) (place : ℕ) → Ascend places → AreBelow place places → Ascend (places ++ place ∷ [])
ascend-push places place up below = λ j k lt k_lt.
    elim (cases_lt k (length places)) [
      | inl before ↦
          omega (arith, up j k lt before, get_or_append_left places (place ∷ []) 0 j (omega (arith, lt, before)), get_or_append_left places (place ∷ []) 0 k before)
      | inr le ↦
          let here : length places ≡ k = omega (arith, le, k_lt, length_push places place) in
          omega (arith, below j 0 (omega (arith, lt, here)), get_or_append_left places (place ∷ []) 0 j (omega (arith, lt, here)), get_or_push places place 0 k here)
    ]

-- the same where it is one of them
pub ascend-marked : (places : List ℕ) (place : ℕ) (holds : Bool) → Ascend places → AreBelow place places → Ascend (places ++ cond holds (place ∷ []) [])
ascend-marked places place true up below = ascend-push places place up below
ascend-marked places place false up below = subst Ascend (sym (append-nil places)) up

-- some of them, one after the other
pub ascend-part : (places : List ℕ) (from n : ℕ) → from + n ≤ length places → Ascend places → Ascend (take n (drop from places))
ascend-part places from n within up = λ j k lt k_lt.
    let rest : List ℕ = drop from places in
    let many : length (take n rest) ≡ n = length-take-le n rest (omega (arith, length-drop from places, within)) in
    let at = λ (i : ℕ) (i_lt : i < n). get_or-take n rest i 0 i_lt ∙ get_or-drop from places i 0 in
    let k_in : k < n = omega (arith, k_lt, many) in
    omega (arith, at j (omega (arith, lt, k_in)), at k k_in, up (from + j) (from + k) (omega (arith, lt)) (omega (arith, k_in, within)))
