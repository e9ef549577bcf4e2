-- Rows in slots: those of one key have one slot.
use Rattle.std.specs.Prelude.{◌≡◌, ◌≢◌, ◌⊎◌, ◌≤◌, ◌<◌, ◌+◌, ◌*◌, ◌++◌, ℕ, ℤ, Option, Some, None, List, [], ◌∷◌, length, get_or, nat_lt, if◌then◌else◌, ◌==◌}
use Rattle.values.specs.Columns.{Listed, row_of}
use Rattle.value_ids.specs.Coding.{AreBelow}
use Rattle.coded_columns.specs.Coded.{most_rows}
use Rattle.group_table.specs.Groups.{key_of}
use Rattle.state_columns.specs.Columns.{Column, state_at}
use Rattle.agg_laws.specs.States.{state_of}

-- those of a list that have this slot
abbrev pub in_slot : {X : Type 0} → ℕ → List ℕ → List X → List X
in_slot slot [] xs = []
in_slot slot (s ∷ slots) [] = []
in_slot slot (s ∷ slots) (x ∷ xs) = if s == slot then x
    ∷ in_slot slot slots xs else in_slot slot slots xs

-- those that have a slot below this
abbrev pub before_slot : {X : Type 0} → ℕ → List ℕ → List X → List X
before_slot n [] xs = []
before_slot n (s ∷ slots) [] = []
before_slot n (s ∷ slots) (x ∷ xs) = if nat_lt s n then x
    ∷ before_slot n slots xs else before_slot n slots xs

-- those that have this slot or one after it
abbrev pub from_slot : {X : Type 0} → ℕ → List ℕ → List X → List X
from_slot n [] xs = []
from_slot n (s ∷ slots) [] = []
from_slot n (s ∷ slots) (x ∷ xs) = if nat_lt s n then from_slot n slots xs else x
    ∷ from_slot n slots xs

-- each of these places has one of so many slots
pub record AreSlotted (count : ℕ) (slots places : List ℕ) : Type 0 where
  pub below : AreBelow count slots
  pub same : length places ≡ length slots
  pub few : count ≤ most_rows

-- the first so many of a list have slots: two have one slot just where they have one key, and the
-- first of each slot is kept
pub record AreRanked (key : ℕ → ℕ) (count : ℕ) (slots firsts : List ℕ) : Type 0 where
  pub at_most : length firsts ≤ count
  pub below : (k : ℕ) → k < count → get_or slots k 0 < length firsts
  pub keys : (k : ℕ) → k < count → key (get_or firsts (get_or slots k 0) 0) ≡ key k
  pub firsts_in : (slot : ℕ) → slot < length firsts → get_or firsts slot 0 < count
  pub firsts_have : (slot : ℕ) → slot < length firsts → get_or slots (get_or firsts slot 0) 0 ≡ slot

-- a number that leads to a slot: one more than the slot, or 0 where there is none
abbrev pub led_by : Option ℕ → ℕ
led_by None = 0
led_by (Some slot) = slot + 1

-- the key leads to this slot, and nothing is changed
pub record IsLed (look new : ℕ → ℕ) (key slot : ℕ) (firsts more : List ℕ) : Type 0 where
  pub there : look key ≡ slot + 1
  pub same : (q : ℕ) → new q ≡ look q
  pub firsts_same : more ≡ firsts

-- the key led nowhere, and leads to a new slot now, of which this row is the first
pub record IsNewSlot (look new : ℕ → ℕ) (key at slot : ℕ) (firsts more : List ℕ) : Type 0 where
  pub none : look key ≡ 0
  pub slot_is : slot ≡ length firsts
  pub firsts_are : more ≡ firsts ++ at ∷ []
  pub there : new key ≡ slot + 1
  pub others : (q : ℕ) → q ≢ key → new q ≡ look q

-- one or the other
abbrev pub GivesSlot : (ℕ → ℕ) → (ℕ → ℕ) → ℕ → ℕ → ℕ → List ℕ → List ℕ → Type 0
GivesSlot look new key at slot firsts more = IsLed look new key slot firsts more
    ⊎ IsNewSlot look new key at slot firsts more

-- the slot and the id of a row as one number
abbrev pub packed : List ℕ → ℕ → List ℕ → List ℕ → ℕ → ℕ
packed slots width ids places k = get_or slots k 0 * width + get_or ids (get_or places k 0) 0

-- rows by their places in slots, where those of one slot have one key; each slot has rows
pub record AreSlots (columns : List Listed) (groups places slots firsts : List ℕ) : Type 0 where
  pub count : length slots ≡ length places
  pub at_most : length firsts ≤ length places
  pub below : (k : ℕ) → k < length places → get_or slots k 0 < length firsts
  pub same : (j k : ℕ) → j < length places → k < length places → get_or slots j 0 ≡ get_or slots k 0
      → key_of groups (row_of columns (get_or places j 0)) ≡ key_of groups
      (row_of columns (get_or places k 0))
  pub firsts_in : (slot : ℕ) → slot < length firsts → get_or firsts slot 0 < length places
  pub firsts_have : (slot : ℕ) → slot < length firsts → get_or slots (get_or firsts slot 0) 0 ≡ slot

-- to the state in each slot come the numbers that have it
pub record MoreStates (slots : List ℕ) (numbers : List ℤ) (old new : Column) : Type 0 where
  pub kind_is : new.kind ≡ old.kind
  pub count_is : length new.states ≡ length old.states
  pub each : (before : ℕ → List ℤ) → ((slot : ℕ) → slot < length old.states
      → state_at old slot ≡ state_of old.kind (before slot))
      → (slot : ℕ) → slot < length old.states → state_at new slot
      ≡ state_of old.kind (before slot ++ in_slot slot slots numbers)
