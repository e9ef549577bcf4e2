-- Files that ascend by name, in a list.
use Rattle.std.specs.Prelude.{◌≡◌, ◌≢◌, ◌<◌, ℕ, slice_index_or, List, ◌++◌, length, take, drop, Some, not}
use Rattle.std.specs.declared.cmp.Ordering.TheVariants.{Greater, Equal}
use Rattle.std.specs.FinMap.{put, find}
use Rattle.std.specs.List.{filter}
use Rattle.std.specs.Ordering.{eq_by_cmp}
use Rattle.outside.specs.Files.{name_order}

-- to put a file under this name is to put it after the first so many files
abbrev pub PutsAt : List (List ℕ × List ℕ) → List ℕ → ℕ → Type 0
PutsAt files name at = (bytes : List ℕ) → put name_order name bytes files ≡ take at files
    ++ put name_order name bytes (drop at files)

-- the files after the first so many begin with no lesser name
abbrev pub StopsAt : List (List ℕ × List ℕ) → List ℕ → ℕ → Type 0
StopsAt files name at = (file : List ℕ × List ℕ) → at < length files
    → file ≡ slice_index_or files at file → name_order name file.0 ≢ Greater

-- the file at this place is the first that has the name
abbrev pub FoundAt : List (List ℕ × List ℕ) → List ℕ → ℕ → Type 0
FoundAt files name at =
    (file : List ℕ × List ℕ) × (at < length files) × (file ≡ slice_index_or files at file)
    × (name_order name file.0 ≡ Equal) × (find name_order name files ≡ Some file.1)

-- the files of other names
abbrev pub others : List ℕ → List (List ℕ × List ℕ) → List (List ℕ × List ℕ)
others name files = filter (λ file. not (eq_by_cmp name_order name file.0)) files
