-- A permuted list has the same state, where states are joined in any grouping and order.
use Rattle.std.proofs.Common.{◌≡◌, ℕ, zero, suc, ◌<◌, length, get_or, set, List, [], ◌∷◌, refl, sym}
use Rattle.std.proofs.Common.{ap, ◌∙◌, arith}
use Rattle.std.specs.List.{swap}
use Rattle.std.specs.List.Sorted.{IsPermutation}
use Rattle.std.proofs.lemmas.List.Sorted.{IsPermutation-keeps}

module _ {X S : Type 0} (join : S → S → S)
    (assoc : (a b c : S) → join (join a b) c ≡ join a (join b c))
    (comm : (a b : S) → join a b ≡ join b a)
    (of : List X → S) (of_more : (x : X) (xs : List X) → of (x ∷ xs)
    ≡ join (of (x ∷ [])) (of xs)) where
  join_swap : (a b c : S) → join a (join b c) ≡ join b (join a c)
  join_swap a b c = sym (assoc a b c) ∙ ap (λ x. join x c) (comm a b) ∙ assoc b a c

  -- a front and the rest
  two : (x y : X) (xs : List X) → of (x ∷ y ∷ xs) ≡ join (of (x ∷ [])) (join (of (y ∷ [])) (of xs))
  two x y xs = of_more x (y ∷ xs) ∙ ap (join (of (x ∷ []))) (of_more y xs)

  under : (x : X) (xs ys : List X) → of xs ≡ of ys → of (x ∷ xs) ≡ of (x ∷ ys)
  under x xs ys is = of_more x xs ∙ ap (join (of (x ∷ []))) is ∙ sym (of_more x ys)

  moved : (e : X) (es : List X) (i : ℕ) (d : X) → i < length es → of (get_or es i d ∷ set es i e)
      ≡ of (e ∷ es)
  moved e [] i d h = absurd (omega arith)
  moved e (f ∷ fs) zero d h = two f e fs ∙ join_swap (of (f ∷ [])) (of (e ∷ [])) (of fs)
      ∙ sym (two e f fs)
  moved e (f ∷ fs) (suc i) d h =
      two (get_or fs i d) f (set fs i e)
      ∙ join_swap (of (get_or fs i d ∷ [])) (of (f ∷ [])) (of (set fs i e))
      ∙ ap (join (of (f ∷ [])))
      (sym (of_more (get_or fs i d) (set fs i e)) ∙ moved e fs i d (omega arith) ∙ of_more e fs)
      ∙ join_swap (of (f ∷ [])) (of (e ∷ [])) (of fs) ∙ sym (two e f fs)

  both_set : (es : List X) (i k : ℕ) (d : X) → i < length es → k < length es
      → of (set (set es i (get_or es k d)) k (get_or es i d)) ≡ of es
  both_set [] i k d h l = absurd (omega arith)
  both_set (e ∷ es) zero zero d h l = refl
  both_set (e ∷ es) zero (suc k) d h l = moved e es k d (omega arith)
  both_set (e ∷ es) (suc i) zero d h l = moved e es i d (omega arith)
  both_set (e ∷ es) (suc i) (suc k) d h l =
      under e (set (set es i (get_or es k d)) k (get_or es i d)) es
      (both_set es i k d (omega arith) (omega arith))

  swapped : (es : List X) (i k : ℕ) → i < length es → k < length es → of (swap es i k) ≡ of es
  swapped [] i k h l = absurd (omega arith)
  swapped (e ∷ es) i k h l = both_set (e ∷ es) i k e h l

  pub permuted : (xs ys : List X) → IsPermutation xs ys → of ys ≡ of xs
  permuted xs ys h = IsPermutation-keeps xs (λ l. of l ≡ of xs) refl
      (λ l i k a b is. swapped l i k a b ∙ is) ys h
