-- Lists in order that are joined.
use Rattle.std.proofs.Common.{◌≡◌, ◌∙◌, ℕ, zero, suc, ◌+◌, ◌<◌, true, false, List, [], ◌∷◌, ◌++◌, length, get_or, refl, sym, ap, subst, arith}
use Rattle.std.specs.declared.cmp.Ordering.{Ordering}
use Rattle.std.specs.declared.cmp.Ordering.TheVariants.{Less, Equal, Greater}
use Rattle.std.specs.Ordering.{is_lt, ordering_reverse}
use Rattle.std.specs.Cmp.{IsTotalOrder}
use Rattle.std.specs.List.Sorted.{IsSorted}

module _ {K : Type 0} (R : K → K → Ordering) where
  tail_sorted : (x : K) (xs : List K) → IsSorted R (x ∷ xs) → IsSorted R xs
  tail_sorted x xs s = λ k d low lt.
      let e : suc k + 1 ≡ suc (k + 1) = omega arith in
      subst (λ n. is_lt (R (get_or (x ∷ xs) n d) (get_or (x ∷ xs) (suc k) d)) ≡ false) e (s (suc k) d (omega arith) (omega arith))

  first_of_both : (xs ys : List K) (x d : K) → (0 < length xs → is_lt (R (get_or xs 0 d) x) ≡ false) → (0 < length ys → is_lt (R (get_or ys 0 d) x) ≡ false) → 0 < length (xs ++ ys)
      → is_lt (R (get_or (xs ++ ys) 0 d) x) ≡ false
  first_of_both [] ys x d f g lt = g lt
  first_of_both (z ∷ zs) ys x d f g lt = f (omega arith)

  step : (x : K) (xs ys : List K) → IsSorted R (x ∷ xs) → IsSorted R (xs ++ ys) → ((j : ℕ) (d : K) → j < length ys → is_lt (R (get_or ys j d) x) ≡ false)
      → (k : ℕ) (d : K) → k + 1 < length (x ∷ xs ++ ys) → is_lt (R (get_or (x ∷ xs ++ ys) (k + 1) d) (get_or (x ∷ xs ++ ys) k d)) ≡ false
  step x xs ys s rest h zero d lt = first_of_both xs ys x d (λ p. s 0 d (omega arith) (omega arith)) (λ p. h 0 d p) (omega arith)
  step x xs ys s rest h (suc k) d lt =
      let e : suc (k + 1) ≡ suc k + 1 = omega arith in
      subst (λ n. is_lt (R (get_or (x ∷ xs ++ ys) n d) (get_or (x ∷ xs ++ ys) (suc k) d)) ≡ false) e (rest k d (omega arith) (omega arith))

  -- two sorted lists, of which nothing in the second is less than anything in the first
  pub sorted_append : (xs ys : List K) → IsSorted R xs → IsSorted R ys → ((i j : ℕ) (d : K) → i < length xs → j < length ys → is_lt (R (get_or ys j d) (get_or xs i d)) ≡ false) → IsSorted R (xs ++ ys)
  sorted_append [] ys s r h = r
  sorted_append (x ∷ xs) ys s r h =
      let rest = sorted_append xs ys (tail_sorted x xs s) r (λ i j d p q. h (suc i) j d (omega arith) q) in
      λ k d low lt. step x xs ys s rest (λ j d q. h 0 j d (omega arith) q) k d lt

  module _ (o : IsTotalOrder R) where
    itself : (a : K) (r : Ordering) → R a a ≡ r → is_lt r ≡ false
    itself a Less e = let same : Less ≡ Greater = sym e ∙ o.antisymm a a ∙ ap ordering_reverse e in absurd cc
    itself a Equal e = refl
    itself a Greater e = refl

    pub not_itself : (a : K) → is_lt (R a a) ≡ false
    not_itself a = itself a (R a a) refl

    by_cases : (b a c : K) (r s : Ordering) → R b a ≡ r → R c a ≡ s → is_lt r ≡ false → is_lt (R c b) ≡ false → is_lt s ≡ false
    by_cases b a c r Equal ba ca n m = refl
    by_cases b a c r Greater ba ca n m = refl
    by_cases b a c Less Less ba ca n m = absurd cc
    by_cases b a c Equal Less ba ca n m =
        let bc : R b c ≡ Greater = o.congr b a c ba ∙ o.antisymm a c ∙ ap ordering_reverse ca in
        let cb : R c b ≡ Less = o.antisymm c b ∙ ap ordering_reverse bc in
        let t : is_lt (R c b) ≡ true = ap is_lt cb in
        absurd cc
    by_cases b a c Greater Less ba ca n m =
        let ab : R a b ≡ Less = o.antisymm a b ∙ ap ordering_reverse ba in
        let t : is_lt (R c b) ≡ true = ap is_lt (o.trans c a b ca ab) in
        absurd cc

    -- what is not less than b, which is not less than a, is not less than a
    pub not_less_on : (b a c : K) → is_lt (R b a) ≡ false → is_lt (R c b) ≡ false → is_lt (R c a) ≡ false
    not_less_on b a c n m = by_cases b a c (R b a) (R c a) refl refl n m
