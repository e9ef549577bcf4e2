-- What several give in order, or the first fault among them.
use Rattle.std.specs.Prelude.{◌++◌, List, [], ◌∷◌, Result, Ok, Err}

-- a list with one more in front, or the first fault of the two
abbrev pub joined : {A E : Type 0} → Result A E → Result (List A) E → Result (List A) E
joined (Err e) rest = Err e
joined (Ok a) (Err e) = Err e
joined (Ok a) (Ok all) = Ok (a ∷ all)

-- what all of these give, or the first fault among them
abbrev pub all_or_first : {A E : Type 0} → List (Result A E) → Result (List A) E
all_or_first [] = Ok []
all_or_first (r ∷ rest) = joined r (all_or_first rest)

-- these, before what others give
abbrev pub after : {A E : Type 0} → List A → Result (List A) E → Result (List A) E
after front (Ok rest) = Ok (front ++ rest)
after front (Err e) = Err e
