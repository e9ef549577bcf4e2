-- Checks in order, of which the first that fails is the fault. A check finds a fault, or `None`.
use Rattle.std.specs.Prelude.{List, [], ◌∷◌, ◌++◌, Option, Some, None}

-- the earlier fault, or the later one where there is none
abbrev pub or_else : {F : Type 0} → Option F → Option F → Option F
or_else (Some fault) later = Some fault
or_else None later = later

-- the first fault of some checks
abbrev pub first_of : {F : Type 0} → List (Option F) → Option F
first_of [] = None
first_of (finding ∷ later) = or_else finding (first_of later)

-- the first fault that a check finds in a list
abbrev pub first_in : {A F : Type 0} → (A → Option F) → List A → Option F
first_in check [] = None
first_in check (x ∷ xs) = or_else (check x) (first_in check xs)

-- the first fault by place: `check` is given the items before a place, and the item there
abbrev pub by_place : {A F : Type 0} → (List A → A → Option F) → List A → List A → Option F
by_place check before [] = None
by_place check before (x ∷ xs) = or_else (check before x) (by_place check (before ++ x ∷ []) xs)
