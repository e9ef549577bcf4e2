-- Merging, sorting and taking a part do not make entries stand for more values.
use Rattle.std.proofs.Common.{◌≡◌, ℕ, zero, suc, ◌+◌, ◌<◌, ◌≤◌, Bool, true, false, cond, List, []}
use Rattle.std.proofs.Common.{◌∷◌, ◌++◌, length, get_or, set, refl, ap, ◌∙◌, arith}
use Rattle.std.specs.List.{filter, swap}
use Rattle.std.specs.List.Sorted.{IsPermutation}
use Rattle.std.proofs.lemmas.List.Sorted.{IsPermutation-keeps}
use Rattle.std.specs.declared.cmp.Ordering.{Ordering}
use Rattle.std.specs.declared.cmp.Ordering.TheVariants.{Less, Equal, Greater}
use Rattle.std.specs.FinMap.Entries.{by_order}
use Rattle.agg_laws.specs.Merged.{add, Merged, weights}

module _ {K S : Type 0} (w : S → ℕ) where
  pub weights-append : (xs ys : List (K × S)) → weights w (xs ++ ys) ≡ weights w xs + weights w ys
  weights-append [] ys = omega arith
  weights-append (x ∷ xs) ys = omega (arith, weights-append xs ys)

  pub weight_at : (xs : List (K × S)) (i : ℕ) (d : K × S) → i < length xs
      → w (get_or xs i d).1 ≤ weights w xs
  weight_at [] i d h = absurd (omega arith)
  weight_at (x ∷ xs) zero d h = omega arith
  weight_at (x ∷ xs) (suc i) d h = let more = weight_at xs i d (omega arith) in omega (arith, more)

  moved_to : (e : K × S) (es : List (K × S)) (i : ℕ) (d : K × S) → i < length es
      → w (get_or es i d).1 + weights w (set es i e) ≡ w e.1 + weights w es
  moved_to e [] i d h = absurd (omega arith)
  moved_to e (f ∷ fs) zero d h = omega arith
  moved_to e (f ∷ fs) (suc i) d h = let more = moved_to e fs i d (omega arith)
      in omega (arith, more)

  two_set : (es : List (K × S)) (i k : ℕ) (d : K × S) → i < length es → k < length es
      → weights w (set (set es i (get_or es k d)) k (get_or es i d)) ≡ weights w es
  two_set [] i k d h l = absurd (omega arith)
  two_set (e ∷ es) zero zero d h l = refl
  two_set (e ∷ es) zero (suc k) d h l = moved_to e es k d (omega arith)
  two_set (e ∷ es) (suc i) zero d h l = moved_to e es i d (omega arith)
  two_set (e ∷ es) (suc i) (suc k) d h l =
      ap (λ n. w e.1 + n) (two_set es i k d (omega arith) (omega arith))

  swapped : (es : List (K × S)) (i k : ℕ) → i < length es → k < length es → weights w (swap es i k)
      ≡ weights w es
  swapped [] i k h l = absurd (omega arith)
  swapped (e ∷ es) i k h l = two_set (e ∷ es) i k e h l

  pub weights-permutation : (xs ys : List (K × S)) → IsPermutation xs ys → weights w ys
      ≡ weights w xs
  weights-permutation xs ys h =
      IsPermutation-keeps xs (λ l. weights w l ≡ weights w xs) refl
      (λ l i k a b is. swapped l i k a b ∙ is) ys h

  pub weights-filter : (p : K × S → Bool) (es : List (K × S))
      → weights w (filter p es) ≤ weights w es
  weights-filter p [] = omega arith
  weights-filter p (e ∷ es) = let more = weights-filter p es
      in elim (p e) as (λ b. weights w (cond b (e ∷ filter p es) (filter p es)) ≤ w e.1
      + weights w es) [ true ↦ omega (arith, more) | false ↦ omega (arith, more) ]

  module _ (R : K → K → Ordering) (join : S → S → S)
      (adds : (a b : S) → w (join a b) ≤ w a + w b) where
    pub weights-add : (k : K) (s : S) (es : List (K × S)) → weights w (add R join k s es) ≤ w s
        + weights w es
    weights-add k s [] = omega arith
    weights-add k s (e ∷ es) =
        let more = weights-add k s es in
        let both = adds s e.1 in
        elim (R k e.0) as (λ r. weights w
        (by_order r ((k, s) ∷ e ∷ es) ((e.0, join s e.1) ∷ es) (e ∷ add R join k s es)) ≤ w s
        + (w e.1 + weights w es)) [
          | Less ↦ omega arith
          | Equal ↦ omega (arith, both)
          | Greater ↦ omega (arith, more)
        ]

    pub weights-Merged : (es : List (K × S)) → weights w (Merged R join es) ≤ weights w es
    weights-Merged [] = omega arith
    weights-Merged (e ∷ es) = let a = weights-add e.0 e.1 (Merged R join es)
        in let b = weights-Merged es in omega (arith, a, b)
