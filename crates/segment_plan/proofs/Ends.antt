-- Ids that ascend are consecutive exactly where their ends are as far apart as there are others.
use Rattle.std.proofs.Common.{◌≡◌, ◌<◌, ◌≤◌, ◌+◌, ◌-◌, ℕ, Bool, true, false, ◌&&◌, nat_eq, List, [], ◌∷◌, length, get_or, refl, subst, arith, eq-eqb}
use Rattle.std.proofs.lemmas.Bool.{eqb-true, eqb-false, ne_eqb}
use Rattle.std.proofs.lemmas.Map.Keys.{below_from_sorted, sorted_tail}
use Rattle.std.specs.List.Sorted.{IsStrictlySortedBy}
use Rattle.std.specs.Ordering.{nat_cmp}
use Rattle.segment_plan.specs.Choices.{are_consecutive, follow}

-- the last of some ids is as far from the first as there are others, or farther; exactly so far, where no id is left out
record AreEnds (first : ℕ) (ids : List ℕ) (last : ℕ) : Type 0 where
  far : first + length ids ≤ last
  tells : nat_eq (last - first) (length ids) ≡ follow first ids

one_before : (first next last n : ℕ) (b : Bool) → nat_eq next (first + 1) ≡ b → first < next → next + n ≤ last → (f : Bool) → nat_eq (last - next) n ≡ f → nat_eq (last - first) (n + 1) ≡ b && f
one_before first next last n false e up far f is = let apart = eqb-false next (first + 1) e in ne_eqb (last - first) (n + 1) (λ same. omega (arith, apart, same, up, far))
one_before first next last n true e up far true is =
    let step : next ≡ first + 1 = eqb-true next (first + 1) e in
    let rest : last - next ≡ n = eqb-true (last - next) n is in
    eq-eqb (last - first) (n + 1) (omega (arith, step, rest, far))
one_before first next last n true e up far false is =
    let step : next ≡ first + 1 = eqb-true next (first + 1) e in
    let rest = eqb-false (last - next) n is in
    ne_eqb (last - first) (n + 1) (λ same. omega (arith, step, rest, far, same))

ends : (first : ℕ) (ids : List ℕ) → IsStrictlySortedBy nat_cmp (first ∷ ids) → AreEnds first ids (get_or (first ∷ ids) (length ids) 0)
ends first [] up = record { far = omega arith; tells = eq-eqb (first - first) 0 (omega arith) }
ends first (next ∷ ids) up =
    let ih : AreEnds next ids (get_or (next ∷ ids) (length ids) 0) = ends next ids (sorted_tail nat_cmp first (next ∷ ids) up) in
    let lt : first < next = below_from_sorted (first ∷ next ∷ ids) 0 1 0 up (omega arith) (omega arith) in
    let many : length ids + 1 ≡ length (next ∷ ids) = omega arith in
    let last : ℕ = get_or (next ∷ ids) (length ids) 0 in
    let far : next + length ids ≤ last = ih.far in
    record {
      far = omega (arith, lt, far, many);
      tells = subst (λ n. nat_eq (last - first) n ≡ follow first (next ∷ ids)) many (one_before first next last (length ids) (nat_eq next (first + 1)) refl lt far (follow next ids) ih.tells);
    }

-- the first is at most the last
pub ends_up : (ids : List ℕ) → IsStrictlySortedBy nat_cmp ids → get_or ids 0 0 ≤ get_or ids (length ids - 1) 0
ends_up [] up = omega arith
ends_up (first ∷ ids) up =
    let e : AreEnds first ids (get_or (first ∷ ids) (length ids) 0) = ends first ids up in
    let far : first + length ids ≤ get_or (first ∷ ids) (length ids) 0 = e.far in
    let n : length ids ≡ length (first ∷ ids) - 1 = omega arith in
    subst (λ m. first ≤ get_or (first ∷ ids) m 0) n (omega (arith, far))

-- how far apart they are tells whether an id is left out
pub ends_tell : (ids : List ℕ) → IsStrictlySortedBy nat_cmp ids → 0 < length ids → nat_eq (get_or ids (length ids - 1) 0 - get_or ids 0 0) (length ids - 1) ≡ are_consecutive ids
ends_tell [] up some = absurd (omega (arith, some))
ends_tell (first ∷ ids) up some =
    let e : AreEnds first ids (get_or (first ∷ ids) (length ids) 0) = ends first ids up in
    let n : length ids ≡ length (first ∷ ids) - 1 = omega arith in
    subst (λ m. nat_eq (get_or (first ∷ ids) m 0 - first) m ≡ follow first ids) n e.tells
