-- What is read of a section for the documents of ids.
use Rattle.std.specs.Prelude.{ℕ, List, Option}
use Rattle.outside.specs.Files.{Files}
use Rattle.outside.specs.Reads.{Entry}
use Rattle.outside.specs.declared.place.Place.{Place}
use Rattle.index_reader.specs.Entries.{LogsPostings, LogsPostingsPartly}
use Rattle.index_reader.specs.Runs.{LogsSorted, LogsSortedPartly}
use Rattle.index_reader.specs.declared.kind.ListKind.{ListKind}
use Rattle.index_reader.specs.declared.kind.ListKind.TheVariants.{Sorted, Inverted}

-- of the section of a kind what it has of these ids was read, each byte once, with one read a run
-- of ids that follow one another, or in an inverted index two
abbrev pub LogsIds : ListKind → List ℕ → Option Files → Place → ℕ → ℕ → Option (List Entry)
    → Option (List Entry) → Type 0
LogsIds Sorted ids held place count rows old new = LogsSorted ids place.file place.offset old new
LogsIds Inverted ids held place count rows old new = LogsPostings ids held place count rows old new

-- none or some of it was read
abbrev pub LogsIdsPartly : ListKind → List ℕ → Option Files → Place → ℕ → ℕ → Option (List Entry)
    → Option (List Entry) → Type 0
LogsIdsPartly Sorted ids held place count rows old new = LogsSortedPartly ids place.file
    place.offset old new
LogsIdsPartly Inverted ids held place count rows old new = LogsPostingsPartly ids held place count
    rows old new
