-- Results in order with their places, up to the first fault.
use Rattle.std.proofs.Common.{◌≡◌, ◌∙◌, ◌<◌, ◌≤◌, ◌+◌, ℕ, suc, List, [], ◌∷◌, ◌++◌, length, drop, map, Result, Ok, Err, refl, ap, arith, append-nil, get_or, add-one}
use Rattle.std.proofs.Math.Seq.{drop-cons}
use Rattle.std.proofs.lemmas.List.{nil_from_length, length-drop}
use Rattle.std.specs.List.{enumerate_from}
use Rattle.csv_row.specs.InOrder.{after, all_or_first, joined}
use Rattle.csv_row.proofs.InOrder.{after-one}

pub after-fault : {A E : Type 0} (front : List A) (r : Result A E) (rest : Result (List A) E) (fault : E) → r ≡ Err fault → after front (joined r rest) ≡ Err fault
after-fault front (Ok b) rest fault e = absurd cc
after-fault front (Err f) rest fault e = ap Err cc

pub after-all : {A E : Type 0} (front : List A) → after {E = E} front (all_or_first []) ≡ Ok front
after-all front = ap Ok (rw append-nil refl)

drop-all : {A : Type 0} (i : ℕ) (xs : List A) → length xs ≤ i → drop i xs ≡ []
drop-all i xs le = nil_from_length (drop i xs) (omega (arith, length-drop i xs))

-- the items from a place on, with their places
numbered : {A B : Type 0} (f : ℕ × A → B) (k i : ℕ) (xs : List A) (d : A) → i < length xs
    → map f (enumerate_from (k + i) (drop i xs)) ≡ f (k + i, get_or xs i d) ∷ map f (enumerate_from (k + (i + 1)) (drop (i + 1) xs))
numbered f k i xs d lt =
    rw (add-one, drop-cons xs i d)
    (ap (λ n. f (k + i, get_or xs i d) ∷ map f (enumerate_from n (drop (suc i) xs))) (omega arith))

pub step-one : {A B E : Type 0} (f : ℕ × A → Result B E) (k i : ℕ) (xs : List A) (d : A) (front : List B) (b : B) (whole : Result (List B) E) → i < length xs
    → f (k + i, get_or xs i d) ≡ Ok b → whole ≡ after front (all_or_first (map f (enumerate_from (k + i) (drop i xs))))
    → whole ≡ after (front ++ b ∷ []) (all_or_first (map f (enumerate_from (k + (i + 1)) (drop (i + 1) xs))))
step-one f k i xs d front b whole lt ok so_far =
    so_far ∙ ap (λ rs. after front (all_or_first rs)) (numbered f k i xs d lt) ∙ after-one front b (f (k + i, get_or xs i d)) _ ok

pub step-fault : {A B E : Type 0} (f : ℕ × A → Result B E) (k i : ℕ) (xs : List A) (d : A) (front : List B) (fault : E) (whole : Result (List B) E) → i < length xs
    → f (k + i, get_or xs i d) ≡ Err fault → whole ≡ after front (all_or_first (map f (enumerate_from (k + i) (drop i xs)))) → whole ≡ Err fault
step-fault f k i xs d front fault whole lt bad so_far =
    so_far ∙ ap (λ rs. after front (all_or_first rs)) (numbered f k i xs d lt) ∙ after-fault front (f (k + i, get_or xs i d)) _ fault bad

pub step-end : {A B E : Type 0} (f : ℕ × A → Result B E) (k i : ℕ) (xs : List A) (front : List B) (whole : Result (List B) E) → length xs ≤ i
    → whole ≡ after front (all_or_first (map f (enumerate_from (k + i) (drop i xs)))) → whole ≡ Ok front
step-end f k i xs front whole le so_far =
    so_far ∙ ap (λ ys. after front (all_or_first (map f (enumerate_from (k + i) ys)))) (drop-all i xs le) ∙ after-all front
