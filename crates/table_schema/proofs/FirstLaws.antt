-- Checks that found nothing.
use Rattle.std.proofs.Common.{◌≡◌, refl, List, [], ◌∷◌, Option, Some, None}
use Rattle.table_schema.specs.Firsts.{or_else, first_of}

pub first_none : {F : Type 0} (a b : Option F) → or_else a b ≡ None → a ≡ None
first_none None b e = refl
first_none (Some fault) b e = e

pub rest_none : {F : Type 0} (a b : Option F) → or_else a b ≡ None → b ≡ None
rest_none None b e = e
rest_none (Some fault) b e = absurd (cc)

-- each of some checks found nothing
abbrev pub Nones : {F : Type 0} → List (Option F) → Type 0
Nones [] = Unit {0}
Nones (f ∷ fs) = (f ≡ None) × Nones fs

pub nones : {F : Type 0} (fs : List (Option F)) → first_of fs ≡ None → Nones fs
nones [] e = tt
nones (f ∷ fs) e = (first_none f (first_of fs) e, nones fs (rest_none f (first_of fs) e))
