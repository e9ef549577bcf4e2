-- The ids of some documents in the columns of a segment, and what is read for them.
use Rattle.std.specs.Prelude.{◌≡◌, ◌≤◌, ◌<◌, ◌+◌, ◌⊎◌, ℕ, Bool, true, false, All, List, length, map, Option, Some, None, IfSome, get_or}
use Rattle.outside.specs.Files.{Files}
use Rattle.outside.specs.Reads.{Entry}
use Rattle.bit_column.specs.Column.{id_at}
use Rattle.bit_column.specs.Sections.{end_byte, first_byte}
use Rattle.doc_lists.specs.Docs.{Apart}
use Rattle.doc_lists.specs.declared.run.Run.{Run}
use Rattle.coded_columns.specs.Coded.{most_rows}
use Rattle.outside.specs.Stretches.{LogsOver, LogsPartly, Stretch}
use Rattle.segment_head.specs.Heads.{Seen, place_in}
use Rattle.segment_file.specs.declared.part.Part.TheVariants.{Forward}
use Rattle.column_reader.specs.Forward.{AreReadable, forward_in, width_in}
use Rattle.segment_plan.specs.Matched.{count_in}

-- runs of documents of a segment, in ascending order and apart
pub record AreRunsIn (head : Seen) (runs : List Run) : Type 0 where
  pub few_rows : head.rows ≤ most_rows
  pub apart : Apart 0 runs
  pub within : All (λ run. run.last < head.rows) runs

-- columns that can be read, and runs of documents whose ids are picked of them
pub record CanPick (head : Seen) (named : List Bool) (docs : List Run) : Type 0 where
  pub readable : AreReadable head named
  pub runs : AreRunsIn head docs

-- the ids of documents, by the bytes of a forward section
abbrev pub ids_at : ℕ → List ℕ → List ℕ → List ℕ
ids_at width docs bytes = map (λ doc. id_at width doc bytes) docs

-- the ids of documents in a column: those of the forward section, where files are told
pub record AreIdsAt (held : Option Files) (head : Seen) (column : ℕ) (docs ids : List ℕ)
    : Type 0 where
  pub count : length ids ≡ length docs
  pub below : All (λ id. id < count_in head column) ids
  pub told : IfSome held (λ files. ids ≡ ids_at (width_in head column) docs
      (forward_in files head column))

-- what is read of a column: nothing, or where it is named the ids of documents
abbrev pub IsPicked : Option Files → Seen → ℕ → List ℕ → Bool → Option (List ℕ) → Type 0
IsPicked held head column docs false ids = ids ≡ None
IsPicked held head column docs true None = ⊥
IsPicked held head column docs true (Some ids) = AreIdsAt held head column docs ids

-- where a forward section at an offset has the ids of a run of documents
abbrev pub ids_of_run : ℕ → ℕ → Run → Stretch
ids_of_run width offset run = record {
  from = offset + first_byte width run.first;
  to = offset + end_byte width run.first (run.last + 1);
}

-- of the forward section of a column the ids of these runs were read, each with one read
abbrev pub LogsRuns : Seen → List Run → ℕ → Option (List Entry) → Option (List Entry) → Type 0
LogsRuns head runs column old new = IfSome (place_in head.sections (Forward column)) (λ place.
    LogsOver place.file (map (ids_of_run (width_in head column) place.offset) runs) old new)

-- none or some of them
abbrev pub LogsRunsPartly : Seen → List Run → ℕ → Option (List Entry) → Option (List Entry) → Type 0
LogsRunsPartly head runs column old new = (new ≡ old) ⊎ IfSome
    (place_in head.sections (Forward column)) (λ place.
    LogsPartly place.file (map (ids_of_run (width_in head column) place.offset) runs) old new)

-- the reads of a column: none, or where it is named those of the runs
abbrev pub LogsIf : Seen → List Run → ℕ → Bool → Option (List Entry) → Option (List Entry) → Type 0
LogsIf head runs column false old new = new ≡ old
LogsIf head runs column true old new = LogsRuns head runs column old new

-- the reads of the column of a number, by its flag among those of all columns
abbrev pub LogsPicked : Seen → List Run → List Bool → ℕ → Option (List Entry) → Option (List Entry)
    → Type 0
LogsPicked head runs named column old new = LogsIf head runs column
    (get_or named column false) old new

-- a part of them
abbrev pub LogsIfPartly : Seen → List Run → ℕ → Bool → Option (List Entry) → Option (List Entry)
    → Type 0
LogsIfPartly head runs column false old new = new ≡ old
LogsIfPartly head runs column true old new = LogsRunsPartly head runs column old new

-- none or some of the reads of the column of a number
abbrev pub LogsPickedPartly : Seen → List Run → List Bool → ℕ → Option (List Entry)
    → Option (List Entry) → Type 0
LogsPickedPartly head runs named column old new = LogsIfPartly head runs column
    (get_or named column false) old new
