-- What is read of the segments of a table.
use Rattle.std.specs.Prelude.{◌≡◌, ◌≤◌, ◌<◌, ◌+◌, ◌++◌, ℕ, List, Option, Some, IfSome, length, option_map}
use Rattle.std.specs.List.{All, Contains}
use Rattle.outside.specs.Files.{Files, bytes_of}
use Rattle.outside.specs.Reads.{Entry}
use Rattle.table_schema.specs.declared.table.Table.{Table}
use Rattle.segment_file.specs.Front.{Front, head_end}
use Rattle.segment_head.specs.Heads.{IsWithin, Seen, dictionary_section}
use Rattle.segment_file.specs.Rules.{HasFront}
use Rattle.segment_head.specs.declared.stored.Stored.{Stored}

-- a file is that of one of these segments
abbrev pub IsFileOf : List Stored → List ℕ → Type 0
IsFileOf stored file = (segment : Stored) × Contains stored segment × (file ≡ segment.file)

-- the told log grew by reads that have P
abbrev pub LogsThat : (Entry → Type 0) → Option (List Entry) → Option (List Entry) → Type 0
LogsThat P old new = (entries : List Entry) × (new ≡ option_map (λ before. before ++ entries) old)
    × All P entries

-- the told log grew by reads of files that have P
abbrev pub LogsWhere : (List ℕ → Type 0) → Option (List Entry) → Option (List Entry) → Type 0
LogsWhere P old new = LogsThat (λ entry. P entry.file) old new

-- the told log grew by reads of the files of these segments
abbrev pub LogsOf : List Stored → Option (List Entry) → Option (List Entry) → Type 0
LogsOf stored old new = LogsWhere (IsFileOf stored) old new

-- the told log grew by reads of this file
abbrev pub LogsIn : List ℕ → Option (List Entry) → Option (List Entry) → Type 0
LogsIn file old new = LogsWhere (λ other. other ≡ file) old new

-- ---- reads of heads

-- a read of this file, of nothing past that place
pub record EndsBy (file : List ℕ) (end : ℕ) (entry : Entry) : Type 0 where
  pub file_is : entry.file ≡ file
  pub ends : entry.offset + entry.count ≤ end

-- the dictionaries of a head end by that place
abbrev pub DictionariesEnd : Table → Seen → ℕ → Type 0
DictionariesEnd table head end = (column : ℕ) → column < length table.schema.fields
    → IfSome (dictionary_section head column) (λ s. s.place.offset + s.place.length ≤ end)

-- a read of the file of a segment; where files are told, of nothing past its head, by what its
-- front says
pub record IsHeadRead (table : Table) (held : Option Files) (segment : Stored) (entry : Entry)
    : Type 0 where
  pub file_is : entry.file ≡ segment.file
  pub within : IfSome held (λ files. IsWithin head_end table segment.name
      (bytes_of (Some files) segment.file) (entry.offset + entry.count))

-- the told log grew by such reads of this segment
abbrev pub LogsHeadOf : Table → Option Files → Stored → Option (List Entry) → Option (List Entry)
    → Type 0
LogsHeadOf table held segment old new = LogsThat (IsHeadRead table held segment) old new

-- the told log grew by such reads of these segments
abbrev pub LogsHeadsOf : Table → Option Files → List Stored → Option (List Entry)
    → Option (List Entry) → Type 0
LogsHeadsOf table held stored old new = LogsThat (λ entry. (segment : Stored)
    × Contains stored segment × IsHeadRead table held segment entry) old new

-- the file of a segment has a front, and the dictionaries of the head end within the head that this
-- says
pub record EndsInHead (table : Table) (files : Files) (segment : Stored) (head : Seen)
    : Type 0 where
  pub front : Front
  pub has : HasFront table segment.name (bytes_of (Some files) segment.file) front
  pub end : DictionariesEnd table head (head_end table segment.name front)
