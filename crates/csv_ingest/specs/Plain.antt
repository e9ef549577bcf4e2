-- Lines whose cells are seen to be numbers by their bytes alone.
use Rattle.std.specs.Prelude.{◌≡◌, ◌<◌, ◌≤◌, ◌+◌, ℕ, suc, Bool, true, not, nat_lt, ◌==◌, ◌&&◌, ◌||◌, List, get_or}
use Rattle.data_types.specs.Numbers.{is_digit}
use Rattle.csv_ingest.specs.declared.parts.Part.{Part}

-- a comma, a line feed or a carriage return
abbrev pub is_break : ℕ → Bool
is_break byte = byte == 44 || byte == 10 || byte == 13

-- after a byte comes a digit, or the end of a cell that is not one `-`, or a `-` at a cell's start
abbrev pub is_plain : ℕ → ℕ → Bool
is_plain before here =
    is_digit here || is_break here && not (before == 45) || here == 45 && nat_lt before 45

-- so it is at each place of a text from the second up to this one
abbrev pub ArePlain : List ℕ → ℕ → Type 0
ArePlain text end = (i : ℕ) → i < end
    → is_plain (get_or text i 0) (get_or text (suc i) 0) ≡ true

-- between these places, up to the one of this number, there are at most 18 bytes
abbrev pub AreShort : List ℕ → ℕ → Type 0
AreShort marks last = (i : ℕ) → i < last → get_or marks (suc i) 0 ≤ get_or marks i 0 + 19

-- each cell of the lines is empty, or a `-` or none and at most 18 digits
pub record HasPlainCells (part : Part) : Type 0 where
  pub bytes : ArePlain part.text.now (get_or part.places.now part.last 0)
  pub short : AreShort part.places.now part.last
