-- Picks that follow one another are coalesced.
use Rattle.std.specs.Prelude.{◌≡◌, ℕ, zero, suc, ◌-◌, Bool, if◌then◌else◌, ◌==◌, ◌&&◌, List, [], ◌∷◌, ◌++◌, false}
use Rattle.star_walk.specs.declared.pick.Pick.{Pick}

-- whether a pick ends where the next begins, and both have one level
abbrev pub touches : Pick → Pick → Bool
touches p q = (p.end == q.start) && (p.level == q.level)

-- a pick that goes on to the end of another
abbrev pub reaching : Pick → Pick → Pick
reaching p q = record { start = p.start; end = q.end; level = p.level }

-- a pick and the ones after it, each coalesced with the one before where that touches it
abbrev pub coalesced_from : Pick → List Pick → List Pick
coalesced_from p [] = p ∷ []
coalesced_from p (q ∷ qs) =
    if touches p q then coalesced_from (reaching p q) qs else p ∷ coalesced_from q qs

-- the picks, where those that touch one another are one
abbrev pub coalesced : List Pick → List Pick
coalesced [] = []
coalesced (p ∷ ps) = coalesced_from p ps

-- numbers from one on, with a level
abbrev pub numbers_from : ℕ → ℕ → ℕ → List (ℕ × ℕ)
numbers_from level from zero = []
numbers_from level from (suc n) = (from, level) ∷ numbers_from level (suc from) n

-- the numbers of the documents of some picks in order, each with the level of its pick
abbrev pub numbers_of : List Pick → List (ℕ × ℕ)
numbers_of [] = []
numbers_of (p ∷ ps) = numbers_from p.level p.start (p.end - p.start) ++ numbers_of ps

-- a pick does not touch the first of the ones after it
abbrev pub IsApart : Pick → List Pick → Type 0
IsApart p [] = Unit {0}
IsApart p (q ∷ qs) = touches p q ≡ false

-- no pick touches the next
abbrev pub AreApart : List Pick → Type 0
AreApart [] = Unit {0}
AreApart (p ∷ ps) = IsApart p ps × AreApart ps
