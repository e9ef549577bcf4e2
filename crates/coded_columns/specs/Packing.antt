-- Ids of rows, packed after the keys that they have.
use Rattle.std.specs.Prelude.{◌≡◌, ◌<◌, ◌+◌, ◌*◌, ℕ, List, get_or, length}
use Rattle.coded_columns.specs.IdColumns.{most_rows}

-- each place is after those before it
abbrev pub Ascend : List ℕ → Type 0
Ascend places = (j k : ℕ) → j < k → k < length places → get_or places j 0 < get_or places k 0

-- the places are those from one on
abbrev pub AreAfter : List ℕ → ℕ → Type 0
AreAfter places first = (k : ℕ) → k < length places → get_or places k 0 ≡ first + k

-- each key has room for an id after it
abbrev pub TakesIds : ℕ → List ℕ → List ℕ → Type 0
TakesIds width keys ids = (k : ℕ) → k < length keys
    → get_or keys k 0 * width + get_or ids k 0 < most_rows

-- each key has an id more
abbrev pub PacksIds : ℕ → List ℕ → List ℕ → List ℕ → Type 0
PacksIds width ids old new = (k : ℕ) → k < length old
    → get_or new k 0 ≡ get_or old k 0 * width + get_or ids k 0
