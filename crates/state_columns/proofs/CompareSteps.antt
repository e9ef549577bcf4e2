-- Two combinations are compared id by id.
use Rattle.std.proofs.Common.{◌≡◌, ℕ, zero, suc, ◌<◌, ◌≤◌, List, [], ◌∷◌, length, drop, refl, sym}
use Rattle.std.proofs.Common.{ap, ◌∙◌, arith, Greater}
use Rattle.std.specs.Ordering.{nat_cmp}
use Rattle.std.specs.Cmp.Lexicographic.{slice_cmp}
use Rattle.std.proofs.lemmas.Bool.Decides.{nat_tests}
use Rattle.state_columns.proofs.ListLemmas.{less_is}

gone : (n : ℕ) → drop {A = ℕ} n [] ≡ []
gone zero = refl
gone (suc n) = refl

pub longer : (n : ℕ) (xs ys : List ℕ) → n < length xs → length ys ≤ n
    → slice_cmp nat_cmp (drop n xs) (drop n ys) ≡ Greater
longer n [] ys h k = absurd (omega arith)
longer zero (x ∷ xs) [] h k = refl
longer zero (x ∷ xs) (y ∷ ys) h k = absurd (omega arith)
longer (suc n) (x ∷ xs) [] h k = ap (slice_cmp nat_cmp (drop n xs)) (sym (gone n))
    ∙ longer n xs [] (omega arith) (omega arith)
longer (suc n) (x ∷ xs) (y ∷ ys) h k = longer n xs ys (omega arith) (omega arith)

pub ended : (n : ℕ) (xs ys : List ℕ) → length xs ≡ n → n ≤ length ys
    → slice_cmp nat_cmp (drop n xs) (drop n ys) ≡ nat_cmp (length xs) (length ys)
ended zero [] [] h k = refl
ended zero [] (y ∷ ys) h k = sym (less_is 0 (suc (length ys)) (omega arith))
ended zero (x ∷ xs) ys h k = absurd (omega arith)
ended (suc n) [] ys h k = absurd (omega arith)
ended (suc n) (x ∷ xs) [] h k = absurd (omega arith)
ended (suc n) (x ∷ xs) (y ∷ ys) h k = ended n xs ys (omega arith) (omega arith)
    ∙ shorter (length xs) (length ys)
  where
    shorter : (a b : ℕ) → nat_cmp a b ≡ nat_cmp (suc a) (suc b)
    shorter a b = grind (arith, nat_tests)
