-- How many bytes are read of forward sections for some documents.
use Rattle.std.specs.Prelude.{◌≡◌, ◌≤◌, ◌*◌, ℕ, Bool, true, false, List, ◌++◌, length, Option, option_map}
use Rattle.std.specs.List.{sum_by}
use Rattle.outside.specs.Reads.{Entry}

-- the told log grew by reads that gave at most so many bytes together
abbrev pub GrowsBy : ℕ → Option (List Entry) → Option (List Entry) → Type 0
GrowsBy most old new = (entries : List Entry) × (new ≡ option_map (λ before. before ++ entries) old)
    × (sum_by (λ entry. entry.count) entries ≤ most)

-- four bytes a document, for a column that is named
abbrev pub column_bytes : List ℕ → Bool → ℕ
column_bytes docs true = 4 * length docs
column_bytes docs false = 0

-- four bytes a document and column that is named
abbrev pub most_bytes : List Bool → List ℕ → ℕ
most_bytes named docs = sum_by (column_bytes docs) named
