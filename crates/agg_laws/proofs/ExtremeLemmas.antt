-- The least of some numbers is one of them, and no greater than any; the greatest likewise.
use Rattle.std.proofs.Common.{◌≡◌, zero, suc, true, false, cond, Some, None, List, [], ◌∷◌, All}
use Rattle.std.proofs.Common.{Contains, refl, sym, subst, arith, ℤ, ◌≤ℤ◌, int_lt}
use Rattle.std.specs.Int.{int_min, int_max}
use Rattle.std.proofs.lemmas.Int.{ints, clamps}
use Rattle.std.proofs.lemmas.List.Elements.{All-cons, All-nil}
use Rattle.agg_laws.specs.Numbers.{lesser, greater, least_of, greatest_of}

contains_first : (x m : ℤ) (xs : List ℤ) → x ≡ m → Contains (x ∷ xs) m
contains_first x m xs is = (0, omega arith, is)

contains_rest : (x m : ℤ) (xs : List ℤ) → Contains xs m → Contains (x ∷ xs) m
contains_rest x m xs h = (suc h.0, omega (arith, h.1), h.2)

-- a bound of the rest that is no more than the first
all_from : (x m n : ℤ) (xs : List ℤ) → m ≤ℤ x → m ≤ℤ n → All (λ y. n ≤ℤ y) xs
    → All (λ y. m ≤ℤ y) (x ∷ xs)
all_from x m n xs p q h zero d lt = p
all_from x m n xs p q h (suc k) d lt = let le = h k d (omega arith) in omega (arith, ints)

all_to : (x m n : ℤ) (xs : List ℤ) → x ≤ℤ m → n ≤ℤ m → All (λ y. y ≤ℤ n) xs
    → All (λ y. y ≤ℤ m) (x ∷ xs)
all_to x m n xs p q h zero d lt = p
all_to x m n xs p q h (suc k) d lt = let le = h k d (omega arith) in omega (arith, ints)

some_is : {A : Type 0} (x y : A) → Some x ≡ Some y → x ≡ y
some_is x y h = cc

pub least_none : (xs : List ℤ) → least_of xs ≡ None → xs ≡ []
least_none [] h = refl
least_none (x ∷ xs) h =
    elim (least_of xs) as
    (λ o. lesser (Some x) o ≡ None → x ∷ xs ≡ []) [ None ↦ λ e. cc | Some n ↦ λ e. cc ] h

pub greatest_none : (xs : List ℤ) → greatest_of xs ≡ None → xs ≡ []
greatest_none [] h = refl
greatest_none (x ∷ xs) h =
    elim (greatest_of xs) as
    (λ o. greater (Some x) o ≡ None → x ∷ xs ≡ []) [ None ↦ λ e. cc | Some n ↦ λ e. cc ] h

pub least_some : (xs : List ℤ) (m : ℤ) → least_of xs ≡ Some m → Contains xs m × All (λ x. m ≤ℤ x) xs
least_some [] m h = cc
least_some (x ∷ xs) m h =
    elim (least_of xs) as
    (λ o. least_of xs ≡ o → lesser (Some x) o ≡ Some m → Contains (x ∷ xs) m
    × All (λ y. m ≤ℤ y) (x ∷ xs)) [
      | None ↦ λ e is.
          let same : x ≡ m = some_is x m is in
          let le : m ≤ℤ x = omega (arith, ints) in (
            contains_first x m xs same,
            subst (λ ys. All (λ y. m ≤ℤ y) (x ∷ ys))
                (sym (least_none xs e)) (All-cons (λ y. m ≤ℤ y) x [] le (All-nil (λ y. m ≤ℤ y))),
          )
      | Some n ↦ λ e is.
          let more = least_some xs n e in
          let min : int_min x n ≡ m = some_is (int_min x n) m is in
          let p : m ≤ℤ x = omega (arith, ints, clamps) in
          let q : m ≤ℤ n = omega (arith, ints, clamps) in (
            elim (int_lt n x) as (λ b. cond b n x ≡ m → Contains (x ∷ xs) m) [
              | true ↦ λ i. subst (Contains (x ∷ xs)) i (contains_rest x n xs more.0)
              | false ↦ λ i. contains_first x m xs i
            ] min,
            all_from x m n xs p q more.1,
          )
    ] refl h

pub greatest_some : (xs : List ℤ) (m : ℤ) → greatest_of xs ≡ Some m → Contains xs m
    × All (λ x. x ≤ℤ m) xs
greatest_some [] m h = cc
greatest_some (x ∷ xs) m h =
    elim (greatest_of xs) as
    (λ o. greatest_of xs ≡ o → greater (Some x) o ≡ Some m → Contains (x ∷ xs) m
    × All (λ y. y ≤ℤ m) (x ∷ xs)) [
      | None ↦ λ e is.
          let same : x ≡ m = some_is x m is in
          let le : x ≤ℤ m = omega (arith, ints) in (
            contains_first x m xs same,
            subst (λ ys. All (λ y. y ≤ℤ m) (x ∷ ys))
                (sym (greatest_none xs e)) (All-cons (λ y. y ≤ℤ m) x [] le (All-nil (λ y. y ≤ℤ m))),
          )
      | Some n ↦ λ e is.
          let more = greatest_some xs n e in
          let max : int_max x n ≡ m = some_is (int_max x n) m is in
          let p : x ≤ℤ m = omega (arith, ints, clamps) in
          let q : n ≤ℤ m = omega (arith, ints, clamps) in (
            elim (int_lt n x) as (λ b. cond b x n ≡ m → Contains (x ∷ xs) m) [
              | true ↦ λ i. contains_first x m xs i
              | false ↦ λ i. subst (Contains (x ∷ xs)) i (contains_rest x n xs more.0)
            ] max,
            all_to x m n xs p q more.1,
          )
    ] refl h
