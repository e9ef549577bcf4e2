-- Sets of documents made of two others.
use Rattle.std.specs.Prelude.{◌≡◌, ◌≤◌, ◌<◌, ℕ, Bool, ◌&&◌, ◌||◌, ◌^◌, nat_le, nat_lt, length, ◌-◌, List, [], ◌∷◌, ◌+◌}
use Rattle.std.specs.List.{All, list_any, slice_index_or}
use Rattle.std.specs.List.Sorted.{IsStrictlyIncreasing}
use Rattle.doc_lists.specs.declared.run.Run.{Run}
use Rattle.doc_lists.specs.Docs.{Apart, has_doc, next_from}

-- the documents of which the test holds, ascending
pub record AreThose (test : ℕ → Bool) (docs : List ℕ) : Type 0 where
  pub ascend : IsStrictlyIncreasing docs
  pub those : (doc : ℕ) → has_doc docs doc ≡ test doc

-- whether a document is in a run
abbrev pub in_run : ℕ → Run → Bool
in_run doc run = nat_le run.first doc && nat_le doc run.last

-- whether a document is in one of the runs
abbrev pub in_runs : List Run → ℕ → Bool
in_runs runs doc = list_any (in_run doc) runs

-- runs apart, the first of which ends at a document or after it
abbrev pub RemainFrom : ℕ → List Run → Type 0
RemainFrom doc [] = Unit {0}
RemainFrom doc (run ∷ runs) = (doc ≤ run.last) × Apart 0 (run ∷ runs)

-- whether there are so many runs and the last of them ends before a document
abbrev pub ends_before : List Run → ℕ → ℕ → Bool
ends_before runs count doc = nat_le count (length runs) && nat_lt
    (slice_index_or runs (count - 1) (record { first = 0; last = 0 })).last doc

-- the runs have the same documents from one on
abbrev pub SameFrom : ℕ → List Run → List Run → Type 0
SameFrom from old new = (doc : ℕ) → from ≤ doc → in_runs new doc ≡ in_runs old doc

-- a run that ends at a document or after it; up to its end, a document is in one of two lists of
-- runs where the run has begun
pub record IsSooner (start : ℕ) (ours theirs : List Run) (run : Run) : Type 0 where
  pub within : run.last < 2 ^ 32
  pub onwards : start ≤ run.last
  pub those : (doc : ℕ) → start ≤ doc → doc ≤ run.last → in_runs ours doc || in_runs theirs doc
      ≡ nat_le run.first doc

-- the first document of runs, or one past all where there is none
abbrev pub first_in : List Run → ℕ
first_in [] = 2 ^ 32
first_in (run ∷ runs) = run.first

-- runs with the documents of a list from one on
pub record Left (from : ℕ) (docs : List ℕ) (runs : List Run) : Type 0 where
  pub remain : RemainFrom from runs
  pub same : (doc : ℕ) → from ≤ doc → in_runs runs doc ≡ has_doc docs doc

-- numbers that ascend from one on
abbrev pub Up : ℕ → List ℕ → Type 0
Up from [] = Unit {0}
Up from (x ∷ xs) = (from ≤ x) × Up (x + 1) xs

-- the documents below one of which the test holds, ascending
pub record Swept (test : ℕ → Bool) (to : ℕ) (docs : List ℕ) : Type 0 where
  pub ascend : Up 0 docs
  pub below : All (λ doc. doc < to) docs
  pub those : (doc : ℕ) → doc < to → has_doc docs doc ≡ test doc

-- a list that was swept up to a document is swept up to the end of runs, where the test holds just
-- of their documents
abbrev pub SweepsRuns : ℕ → List Run → List ℕ → List ℕ → Type 0
SweepsRuns start runs old new =
    (test : ℕ → Bool) → Swept test start old → ((doc : ℕ) → start ≤ doc → doc < next_from 0 runs
    → test doc ≡ in_runs runs doc) → Swept test (next_from 0 runs) new
