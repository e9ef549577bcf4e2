-- Results in order, up to the first fault.
use Rattle.std.proofs.Common.{◌≡◌, ◌∙◌, ◌<◌, ◌+◌, ℕ, List, [], ◌∷◌, ◌++◌, length, drop, map, Result, Ok, Err, refl, ap, append_assoc, get_or, add-one}
use Rattle.std.proofs.Math.Seq.{drop-cons}
use Rattle.csv_row.specs.InOrder.{after, all_or_first, joined}

pub after-none : {A E : Type 0} (r : Result (List A) E) → r ≡ after [] r
after-none (Ok rest) = refl
after-none (Err e) = refl

pub after-one : {A E : Type 0} (front : List A) (a : A) (r : Result A E) (rest : Result (List A) E) → r ≡ Ok a → after front (joined r rest) ≡ after (front ++ a ∷ []) rest
after-one front a (Ok b) (Ok rest) e = ap Ok (simp append_assoc (ap (λ x. front ++ x) cc))
after-one front a (Ok b) (Err f) e = refl
after-one front a (Err f) rest e = absurd cc

-- the items from a place on
one_item : {A B : Type 0} (f : A → B) (i : ℕ) (xs : List A) (d : A) → i < length xs → map f (drop i xs) ≡ f (get_or xs i d) ∷ map f (drop (i + 1) xs)
one_item f i xs d lt = rw (add-one, drop-cons xs i d) refl

-- one more that gives something
pub item-one : {A B E : Type 0} (f : A → Result B E) (i : ℕ) (xs : List A) (d : A) (front : List B) (b : B) (whole : Result (List B) E) → i < length xs
    → f (get_or xs i d) ≡ Ok b → whole ≡ after front (all_or_first (map f (drop i xs)))
    → whole ≡ after (front ++ b ∷ []) (all_or_first (map f (drop (i + 1) xs)))
item-one f i xs d front b whole lt ok so_far =
    so_far ∙ ap (λ rs. after front (all_or_first rs)) (one_item f i xs d lt) ∙ after-one front b (f (get_or xs i d)) _ ok
