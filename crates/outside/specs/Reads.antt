-- The reads that a shelf tells, and how many bytes of a file they gave.
use Rattle.std.specs.Prelude.{◌≡◌, ◌≤◌, ◌<◌, ◌⊎◌, ◌+◌, ◌-◌, ℕ, min, max, List, [], ◌∷◌, ◌++◌, length, take, drop, Option, Some, IfSome, option_map, sum_by, if◌then◌else◌}
use Rattle.std.specs.Ordering.{eq_by_cmp}
use Rattle.outside.specs.Files.{Files, OfFile, bytes_at, bytes_of, name_order}

-- one read: so many bytes of this file, from this offset on
pub record Entry : Type 0 where
  pub file : List ℕ
  pub offset : ℕ
  pub count : ℕ

-- a read of a file: from where, and how many bytes
abbrev pub entry_of : List ℕ → ℕ → ℕ → Entry
entry_of file offset count = record { file = file; offset = offset; count = count }

-- the told reads, and then this one
abbrev pub logged : List ℕ → ℕ → ℕ → Option (List Entry) → Option (List Entry)
logged file offset count log = option_map (λ entries. entries ++ entry_of file offset count
    ∷ []) log

-- n bytes of the file were read, as many as there are and fit, and the rest of the buffer is as it
-- was
abbrev pub ReadsAt : Option Files → List ℕ → ℕ → ℕ → List ℕ → List ℕ → Type 0
ReadsAt held name offset n old new =
    OfFile held name (λ bytes. (n ≡ min (length bytes - offset) (length old))
    × (new ≡ take n (drop offset bytes) ++ drop n old))

-- so many bytes of the file from an offset on stand at the front of a buffer, as many as there are
-- and fit
abbrev pub Fills : Option Files → List ℕ → ℕ → ℕ → List ℕ → Type 0
Fills held name offset count into =
    IfSome held (λ files. (count ≡ min (length (bytes_of (Some files) name) - offset) (length into))
    × (take count into ≡ bytes_at files name offset count))

-- how many bytes two stretches have in common: from a to b, and from c to d
abbrev pub overlap : ℕ → ℕ → ℕ → ℕ → ℕ
overlap a b c d = min b d - max a c

-- how many bytes of this file between two offsets one read gave
abbrev pub read_by : Entry → List ℕ → ℕ → ℕ → ℕ
read_by entry file from to = if eq_by_cmp name_order entry.file file then overlap entry.offset
    (entry.offset + entry.count) from to else 0

-- how many bytes of this file between two offsets these reads gave together; bytes read twice count
-- twice
abbrev pub read_in : List Entry → List ℕ → ℕ → ℕ → ℕ
read_in entries file from to = sum_by (λ entry. read_by entry file from to) entries

-- these reads are of this file and go back to back from one offset to another
abbrev pub Consecutive : List ℕ → ℕ → ℕ → List Entry → Type 0
Consecutive file from to [] = from ≡ to
Consecutive file from to (entry ∷ entries) =
    (entry.file ≡ file) × (entry.offset ≡ from) × Consecutive file (from + entry.count) to entries

-- the told log grew by reads of this file that go back to back from one offset to another
abbrev pub LogsThrough : List ℕ → ℕ → ℕ → Option (List Entry) → Option (List Entry) → Type 0
LogsThrough file from to old new =
    (entries : List Entry) × (new ≡ option_map (λ before. before ++ entries) old)
    × Consecutive file from to entries

-- the told log grew by reads of this file that go back to back, from one offset to none after
-- another
abbrev pub LogsUpTo : List ℕ → ℕ → ℕ → Option (List Entry) → Option (List Entry) → Type 0
LogsUpTo file from limit old new = (to : ℕ) × (to ≤ limit) × LogsThrough file from to old new

-- these reads are of this file, go back to back from one offset to another, and each gave bytes
abbrev pub AllGive : List ℕ → ℕ → ℕ → List Entry → Type 0
AllGive file from to [] = from ≡ to
AllGive file from to (entry ∷ entries) =
    (entry.file ≡ file) × (entry.offset ≡ from) × (0 < entry.count)
    × AllGive file (from + entry.count) to entries

-- the told log grew by such reads
abbrev pub LogsOn : List ℕ → ℕ → ℕ → Option (List Entry) → Option (List Entry) → Type 0
LogsOn file from to old new =
    (entries : List Entry) × (new ≡ option_map (λ before. before ++ entries) old)
    × AllGive file from to entries

-- the told log grew by such reads, which reach the end that is wanted, or by one more, which gave
-- nothing
abbrev pub LogsFilled : List ℕ → ℕ → ℕ → ℕ → Option (List Entry) → Option (List Entry) → Type 0
LogsFilled file from to end old new =
    ((end ≤ to) × LogsOn file from to old new)
    ⊎ ((between : Option (List Entry)) × (to < end) × LogsOn file from to old between
    × (new ≡ logged file to 0 between))
