-- The documents of a set of ids, and the sections that tell where ids are.
use Rattle.std.specs.Prelude.{◌≡◌, ◌<◌, ℕ, Bool, ◌&&◌, nat_lt, List, All, length, get_or}
use Rattle.std.specs.List.Sorted.{IsNonDecreasing}
use Rattle.bit_column.specs.Postings.{inverted, ranged}
use Rattle.bit_column.specs.SortedRuns.{sorted_runs}
use Rattle.value_ids.specs.Ids.{has_id}
use Rattle.index_reader.specs.declared.kind.ListKind.{ListKind}
use Rattle.index_reader.specs.declared.kind.ListKind.TheVariants.{Sorted, Inverted}

-- whether a document is one of the rows, whose ids these are, and its id is in a set
abbrev pub is_doc_of : List ℕ → List ℕ → ℕ → Bool
is_doc_of set ids doc = nat_lt doc (length ids) && has_id set (get_or ids doc 0)

-- these are ids below a count, as many as there are rows
abbrev pub AreIds : ℕ → ℕ → List ℕ → Type 0
AreIds count rows ids = All (λ id. id < count) ids × (length ids ≡ rows)

-- the bytes are the section of the ids of a sorted column
abbrev pub TellsSorted : ℕ → ℕ → List ℕ → List ℕ → Type 0
TellsSorted count rows bytes ids = AreIds count rows ids × IsNonDecreasing ids
    × (bytes ≡ sorted_runs count ids)

-- the bytes are the section of the inverted index of ids
abbrev pub TellsInverted : ℕ → ℕ → List ℕ → List ℕ → Type 0
TellsInverted count rows bytes ids = AreIds count rows ids × (bytes ≡ inverted count ids)

-- the bytes are the section of the range index of ids
abbrev pub TellsRanged : ℕ → ℕ → List ℕ → List ℕ → Type 0
TellsRanged count rows bytes ids = AreIds count rows ids × (bytes ≡ ranged count ids)

-- the bytes are the section of a kind of the ids of so many rows
abbrev pub Tells : ListKind → ℕ → ℕ → List ℕ → List ℕ → Type 0
Tells Sorted count rows bytes ids = TellsSorted count rows bytes ids
Tells Inverted count rows bytes ids = TellsInverted count rows bytes ids
