-- The fields of a record by their places.
use Rattle.std.proofs.Common.{◌≡◌, ◌<◌, ℕ, zero, suc, List, [], ◌∷◌, length, get_or, Some, None, arith}
use Rattle.csv.specs.Records.{field_at}

pub field-some : (fs : List (List ℕ)) (i : ℕ) (f : List ℕ) → Some f ≡ field_at fs i → f ≡ get_or fs i []
unfolding field_at
field-some [] i f e = absurd cc
field-some (g ∷ fs) zero f e = cc
field-some (g ∷ fs) (suc i) f e = field-some fs i f e

pub field-none : (fs : List (List ℕ)) (i : ℕ) → None ≡ field_at fs i → i < length fs → ⊥
unfolding field_at
field-none [] i e lt = absurd (omega (arith, lt))
field-none (g ∷ fs) zero e lt = cc
field-none (g ∷ fs) (suc i) e lt = field-none fs i e (omega (arith, lt))
