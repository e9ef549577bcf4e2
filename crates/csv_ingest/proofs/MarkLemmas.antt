-- A byte order mark at the start of a text.
use Rattle.std.proofs.Common.{◌≡◌, ◌<◌, ◌≤◌, ℕ, List, [], ◌∷◌, drop, length, get_or, true, false, refl, arith}
use Rattle.csv.specs.Reading.{is_bom, strip_bom}

pub short-text : (xs : List ℕ) → length xs < 3 → xs ≡ strip_bom xs
unfolding strip_bom
short-text [] lt = refl
short-text (a ∷ []) lt = refl
short-text (a ∷ b ∷ []) lt = refl
short-text (a ∷ b ∷ c ∷ rest) lt = absurd (omega (arith, lt))

pub marked-text : (xs : List ℕ) → 3 ≤ length xs → is_bom (get_or xs 0 0) (get_or xs 1 0) (get_or xs 2 0) ≡ true → drop 3 xs ≡ strip_bom xs
unfolding strip_bom
marked-text [] le e = absurd (omega (arith, le))
marked-text (a ∷ []) le e = absurd (omega (arith, le))
marked-text (a ∷ b ∷ []) le e = absurd (omega (arith, le))
marked-text (a ∷ b ∷ c ∷ rest) le e = rw e refl

pub unmarked-text : (xs : List ℕ) → 3 ≤ length xs → is_bom (get_or xs 0 0) (get_or xs 1 0) (get_or xs 2 0) ≡ false → xs ≡ strip_bom xs
unfolding strip_bom
unmarked-text [] le e = absurd (omega (arith, le))
unmarked-text (a ∷ []) le e = absurd (omega (arith, le))
unmarked-text (a ∷ b ∷ []) le e = absurd (omega (arith, le))
unmarked-text (a ∷ b ∷ c ∷ rest) le e = rw e refl
