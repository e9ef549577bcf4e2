-- Each list of the machine has a number of its own.
use Rattle.std.specs.Prelude.{◌≡◌, ◌⊎◌, nat_eq, ℕ, List, [], ◌∷◌, map, Some}
use Rattle.std.specs.FinMap as finite
use Rattle.std.specs.List.{IsDistinct}
use Rattle.values.specs.declared.value.Value.{Value}
use Rattle.cursor_serve.specs.Machine.{Cursor, Line, Listed, Machine, after_line, started}
use Rattle.cursor_serve.specs.Sound.{IsAmong, IsSound}

-- a list is one of some
abbrev pub IsOneOf : Listed → List Listed → Type 0
IsOneOf listed [] = ⊥
IsOneOf listed (one ∷ lists) = (one ≡ listed) ⊎ IsOneOf listed lists

-- a list is one of those that a cursor was opened over
pub record IsOfCursor (m : Machine) (listed : Listed) : Type 0 where
  pub name : List ℕ
  pub cursor : Cursor
  pub got : finite.get m.cursors name ≡ Some cursor
  pub among : IsOneOf listed cursor.lists

-- a list is live, or one of a cursor's, or kept
abbrev pub IsListIn : Machine → Listed → Type 0
IsListIn m listed = (finite.get m.live listed.name ≡ Some listed.version)
    ⊎ (IsOfCursor m listed ⊎ IsAmong listed m.kept)

-- lists of one number are one list, and no list is kept twice
pub record IsNumbered (m : Machine) : Type 0 where
  pub one : (a b : Listed) → IsListIn m a → IsListIn m b → a.version.number ≡ b.version.number
      → a ≡ b
  pub once : IsDistinct nat_eq (map (λ k. k.listed.version.number) m.kept)

-- each line leads from a sound state with numbered lists to one with numbered lists
abbrev pub StaysNumbered : Type 0
StaysNumbered = (number : ℕ) (line : Line) (m : Machine) → IsSound m → IsNumbered m
    → IsNumbered (after_line number line m)

-- the machine starts with numbered lists
abbrev pub StartsNumbered : Type 0
StartsNumbered = (lists : List (List ℕ × List (List Value))) → IsNumbered (started lists)
