-- Parts of the entries of postings.
use Rattle.std.specs.Prelude.{◌≡◌, ◌≤◌, ◌⊎◌, ℕ, Bool, ◌+◌, ◌-◌, ◌*◌, List, [], ◌∷◌, Option, IfSome, length, take, drop, map, get_or}
use Rattle.std.specs.List.{flat_map}
use Rattle.outside.specs.Files.{Files}
use Rattle.outside.specs.Reads.{Entry}
use Rattle.outside.specs.declared.place.Place.{Place}
use Rattle.doc_lists.specs.Docs.{has_doc}
use Rattle.doc_lists.specs.declared.run.Run.{Run}
use Rattle.bit_column.specs.Postings.{entries, offset, postings}
use Rattle.bit_column.specs.Sections.{section}
use Rattle.index_reader.specs.Documents.{AreIds}
use Rattle.index_reader.specs.Runs.{AreRunsOf}
use Rattle.outside.specs.Stretches.{LogsOver, LogsPartly, Stretch}
use Rattle.index_reader.specs.declared.ends.Ends.{Ends}

-- the bytes are the postings by keys below a count, as many as there are rows
abbrev pub TellsPostings : ℕ → ℕ → List ℕ → List ℕ → Type 0
TellsPostings count rows bytes keys = AreIds count rows keys × (bytes ≡ postings count keys)

-- where the entries of the keys from one up to another begin and end
abbrev pub part_between : List ℕ → ℕ → ℕ → Ends
part_between keys from to = record { first = offset keys from; last = offset keys to }

-- the same of a run of keys
abbrev pub part_of : List ℕ → Run → Ends
part_of keys run = part_between keys run.first (run.last + 1)

-- parts in order, none of them past an end
abbrev pub Rising : ℕ → ℕ → List Ends → Type 0
Rising from end [] = Unit {0}
Rising from end (part ∷ parts) = (from ≤ part.first) × (part.first ≤ part.last) × (part.last ≤ end)
    × Rising part.last end parts

-- the entries of a part
abbrev pub entries_of : ℕ → List ℕ → Ends → List ℕ
entries_of count keys part = take (part.last - part.first) (drop part.first (entries count keys))

-- the entries of parts, one part after the other
abbrev pub entries_in : ℕ → List ℕ → List Ends → List ℕ
entries_in count keys parts = flat_map (entries_of count keys) parts

-- where postings at an offset have the offsets of a run of keys, and where they have the entries of
-- a part
abbrev pub offsets_of : ℕ → Run → Stretch
offsets_of start run = record { from = start + 4 * run.first; to = start + 4 * (run.last + 2) }

-- the bytes of the entries of a part, which come after the offsets of all keys and of the end
abbrev pub entries_at : ℕ → ℕ → Ends → Stretch
entries_at start count part = record {
  from = start + 4 * (count + 1 + part.first);
  to = start + 4 * (count + 1 + part.last);
}

-- where the section is told, these are the parts of runs of keys
abbrev pub ArePartsOf : Option Files → Place → ℕ → ℕ → List Run → List Ends → Type 0
ArePartsOf held place count rows runs parts =
    IfSome held (λ files. (keys : List ℕ) → TellsPostings count rows (section files place) keys
    → parts ≡ map (part_of keys) runs)

-- parts in order among the entries, one for each run of keys, and theirs where the section is told
abbrev pub StandFor : Option Files → Place → ℕ → ℕ → List Run → List Ends → Type 0
StandFor held place count rows runs parts = Rising 0 rows parts × (length parts ≡ length runs)
    × ArePartsOf held place count rows runs parts

-- of postings the offsets of these keys were read, and then their entries, both with one read a run
-- of keys that follow one another
abbrev pub LogsPostings : List ℕ → Option Files → Place → ℕ → ℕ → Option (List Entry)
    → Option (List Entry) → Type 0
LogsPostings keys held place count rows old new =
    (runs : List Run) × AreRunsOf keys runs × (parts : List Ends)
    × StandFor held place count rows runs parts
    × (between : Option (List Entry)) × LogsOver place.file (map
    (offsets_of place.offset) runs) old between
    × LogsOver place.file (map (entries_at place.offset count) parts) between new

-- none or some of them were read
abbrev pub LogsPostingsPartly : List ℕ → Option Files → Place → ℕ → ℕ → Option (List Entry)
    → Option (List Entry) → Type 0
LogsPostingsPartly keys held place count rows old new =
    (new ≡ old)
    ⊎ (((runs : List Run) × AreRunsOf keys runs × LogsPartly place.file
    (map (offsets_of place.offset) runs) old new)
    ⊎ ((runs : List Run) × AreRunsOf keys runs × (parts : List Ends)
    × StandFor held place count rows runs parts
    × (between : Option (List Entry)) × LogsOver place.file (map
    (offsets_of place.offset) runs) old between
    × LogsPartly place.file (map (entries_at place.offset count) parts) between new))
