-- Ascending lists of documents, kept as runs of documents that follow one another.
use Rattle.std.specs.Prelude.{◌≡◌, ◌≤◌, ◌<◌, ◌^◌, ℕ, Bool, ◌+◌, ◌-◌, nat_eq, List, [], ◌∷◌, ◌++◌, length}
use Rattle.std.specs.List.{All, flat_map, list_any, range_with_len}
use Rattle.doc_lists.specs.declared.run.Run.{Run}

-- whether a document is in a list
abbrev pub has_doc : List ℕ → ℕ → Bool
has_doc docs doc = list_any (nat_eq doc) docs

-- the documents of a run
abbrev pub docs_of_run : Run → List ℕ
docs_of_run run = range_with_len run.first (run.last + 1 - run.first)

-- the documents of runs, one run after the other
abbrev pub docs_of : List Run → List ℕ
docs_of runs = flat_map docs_of_run runs

-- runs in order, from a document on, each of at least one document, with a document missing between
-- two of them
abbrev pub Apart : ℕ → List Run → Type 0
Apart from [] = Unit {0}
Apart from (run ∷ runs) = (from ≤ run.first) × (run.first ≤ run.last) × (run.last < 2 ^ 32)
    × Apart (run.last + 2) runs

-- runs that begin after the documents of a list, with one missing between them
pub record AreAfter (docs : List ℕ) (runs : List Run) : Type 0 where
  pub end : ℕ
  pub below : All (λ doc. doc < end) docs
  pub apart : Apart (end + 1) runs

-- the document after the last one of runs, or the one that is given where there is none
abbrev pub next_from : ℕ → List Run → ℕ
next_from next [] = next
next_from next (run ∷ runs) = next_from (run.last + 1) runs

-- runs as a list keeps them, with the number of their documents
pub record AreRuns (runs : List Run) (count : ℕ) : Type 0 where
  pub apart : Apart 0 runs
  pub counted : count ≡ length (docs_of runs)
  pub at_most : count ≤ next_from 0 runs

-- runs to which a run was added after them
pub record Added (old new : List Run) (run : Run) : Type 0 where
  pub apart : Apart 0 new
  pub docs : docs_of new ≡ docs_of old ++ docs_of_run run
  pub next : next_from 0 new ≡ run.last + 1
