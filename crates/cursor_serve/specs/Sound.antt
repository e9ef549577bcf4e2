-- What holds of each state of the machine that lines lead to.
use Rattle.std.specs.Prelude.{◌≡◌, ◌≢◌, ◌<◌, ◌⊎◌, ℕ, true, List, [], ◌∷◌, drop, Some}
use Rattle.std.specs.FinMap as finite
use Rattle.std.specs.List.{AllByRecursion}
use Rattle.values.specs.declared.value.Value.{Value}
use Rattle.cursor_serve.specs.Machine.{Cursor, KeptList, Line, Listed, Machine, Version, after_line, is_held, started}

-- a list of a cursor has a number that was given, and is the live one under its name where that
-- has its number
pub record IsOwn (m : Machine) (listed : Listed) : Type 0 where
  pub below : listed.version.number < m.next
  pub one : (version : Version) → finite.get m.live listed.name ≡ Some version
      → version.number ≡ listed.version.number → version ≡ listed.version

-- a list is among those that are kept
abbrev pub IsAmong : Listed → List KeptList → Type 0
IsAmong listed [] = ⊥
IsAmong listed (k ∷ kept) = (k.listed ≡ listed) ⊎ IsAmong listed kept

-- the rows of a list are there: it is live, or kept
abbrev pub IsThere : Machine → Listed → Type 0
IsThere m listed = (finite.get m.live listed.name ≡ Some listed.version) ⊎ IsAmong listed m.kept

-- a list that is kept is live no longer, and some cursor was opened over it
pub record IsKeptWell (m : Machine) (k : KeptList) : Type 0 where
  pub below : k.listed.version.number < m.next
  pub out : (version : Version) → finite.get m.live k.listed.name ≡ Some version
      → version.number ≢ k.listed.version.number
  pub held : is_held k.listed.version.number m.cursors ≡ true

-- numbers are given in turn, each cursor has lists of the machine, those that it has still to
-- answer are there, and lists are kept as they should
pub record IsSound (m : Machine) : Type 0 where
  pub live : (name : List ℕ) (version : Version) → finite.get m.live name ≡ Some version
      → version.number < m.next
  pub lists : (name : List ℕ) (cursor : Cursor) → finite.get m.cursors name ≡ Some cursor
      → AllByRecursion (IsOwn m) cursor.lists
  pub awaited : (name : List ℕ) (cursor : Cursor) → finite.get m.cursors name ≡ Some cursor
      → AllByRecursion (IsThere m) (drop cursor.answered cursor.lists)
  pub kept : AllByRecursion (IsKeptWell m) m.kept

-- each line leads from a sound state to one
abbrev pub StaysSound : Type 0
StaysSound = (number : ℕ) (line : Line) (m : Machine) → IsSound m
    → IsSound (after_line number line m)

-- the machine starts in a sound state
abbrev pub StartsSound : Type 0
StartsSound = (lists : List (List ℕ × List (List Value))) → IsSound (started lists)
