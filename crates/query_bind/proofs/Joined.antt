-- A text that is two parts.
use Rattle.std.proofs.Common.{◌≡◌, ℕ, ◌≤◌, ◌<◌, nat_eq, List, [], ◌∷◌, ◌++◌, length, take, drop, Bool, true, false, ◌&&◌, refl, sym, ap, ◌∙◌, arith}
use Rattle.std.specs.Str.{bytes_eq}

and_assoc : (a b c : Bool) → (a && (b && c)) ≡ ((a && b) && c)
and_assoc true b c = refl
and_assoc false b c = refl

and_false : (a : Bool) → (a && false) ≡ false
and_false true = refl
and_false false = refl

pub joined_parts : (name front back : List ℕ) → length front ≤ length name
    → (bytes_eq (take (length front) name) front && bytes_eq (drop (length front) name) back) ≡ bytes_eq name (front ++ back)
joined_parts name [] back room = refl
joined_parts [] (y ∷ ys) back room = refl
joined_parts (x ∷ xs) (y ∷ ys) back room =
    sym (and_assoc (nat_eq x y) (bytes_eq (take (length ys) xs) ys) (bytes_eq (drop (length ys) xs) back))
    ∙ ap (λ b. nat_eq x y && b) (joined_parts xs ys back (omega (arith, room)))

pub joined_short : (name front back : List ℕ) → length name < length front → false ≡ bytes_eq name (front ++ back)
joined_short name [] back short = absurd (omega (arith, short))
joined_short [] (y ∷ ys) back short = refl
joined_short (x ∷ xs) (y ∷ ys) back short =
    sym (ap (λ b. nat_eq x y && b) (sym (joined_short xs ys back (omega (arith, short)))) ∙ and_false (nat_eq x y))
