-- Runs of ids in the section of a sorted column.
use Rattle.std.specs.Prelude.{◌≡◌, ◌⊎◌, ℕ, ◌+◌, ◌-◌, ◌*◌, List, Option, map}
use Rattle.std.specs.List.{flat_map, range_with_len}
use Rattle.outside.specs.Reads.{Entry}
use Rattle.doc_lists.specs.Docs.{Apart, docs_of}
use Rattle.doc_lists.specs.declared.run.Run.{Run}
use Rattle.bit_column.specs.SortedRuns.{first_place}
use Rattle.outside.specs.Stretches.{LogsOver, LogsPartly, Stretch}

-- the documents of a run of ids, in ascending ids
abbrev pub docs_at : List ℕ → Run → List ℕ
docs_at ids run = range_with_len (first_place ids run.first)
    (first_place ids (run.last + 1) - first_place ids run.first)

-- the documents of runs of ids, one run after the other
abbrev pub docs_in : List ℕ → List Run → List ℕ
docs_in ids runs = flat_map (docs_at ids) runs

-- where the section of a sorted column at an offset has both places of each id of a run
abbrev pub ends_of : ℕ → Run → Stretch
ends_of offset run = record { from = offset + 8 * run.first; to = offset + 8 * (run.last + 1) }

-- ids as the fewest runs of ids that follow one another
abbrev pub AreRunsOf : List ℕ → List Run → Type 0
AreRunsOf ids runs = Apart 0 runs × (docs_of runs ≡ ids)

-- of the section of a sorted column the places of these ids were read, with one read a run of ids
-- that follow one another
abbrev pub LogsSorted : List ℕ → List ℕ → ℕ → Option (List Entry) → Option (List Entry) → Type 0
LogsSorted ids file offset old new =
    (runs : List Run) × AreRunsOf ids runs × LogsOver file (map (ends_of offset) runs) old new

-- none or some of them were read
abbrev pub LogsSortedPartly : List ℕ → List ℕ → ℕ → Option (List Entry) → Option (List Entry)
    → Type 0
LogsSortedPartly ids file offset old new =
    (new ≡ old) ⊎ ((runs : List Run) × AreRunsOf ids runs × LogsPartly file
    (map (ends_of offset) runs) old new)
