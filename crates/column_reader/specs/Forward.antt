-- What is read of the columns of a segment.
use Rattle.std.specs.Prelude.{◌≡◌, ◌≤◌, ◌<◌, ◌+◌, ◌⊎◌, ℕ, zero, suc, Bool, true, false, All, List, length, Option, Some, None, IfSome, IsSome, get_or}
use Rattle.outside.specs.Files.{Files}
use Rattle.outside.specs.Reads.{Entry, LogsOn, LogsUpTo}
use Rattle.bit_column.specs.Column.{ids_between, width_of}
use Rattle.bit_column.specs.Sections.{Readable, end_byte, first_byte}
use Rattle.segment_head.specs.Heads.{IsLoaded, Seen, bytes_in, place_in}
use Rattle.segment_file.specs.declared.part.Part.TheVariants.{Forward}
use Rattle.segment_plan.specs.Matched.{count_in}
use Rattle.segment_head.specs.declared.fault.EngineFault.{EngineFault}
use Rattle.segment_head.specs.declared.fault.EngineFault.TheVariants.{NotASegment, ReadFault, NoMemory, TooManyGroups}

-- the dictionary of the column was loaded, and the head says where its forward section is
pub record IsReadable (head : Seen) (column : ℕ) : Type 0 where
  pub loaded : IsLoaded head column
  pub placed : IsSome (place_in head.sections (Forward column))

-- each column that is named has a number of a field, and can be read
pub record AreReadable (head : Seen) (named : List Bool) : Type 0 where
  pub at_most : length named ≤ 65535
  pub each : (column : ℕ) → get_or named column false ≡ true → IsReadable head column

-- how many bits an id of the column has in its forward section
abbrev pub width_in : Seen → ℕ → ℕ
width_in head column = width_of (count_in head column)

-- the forward section of a column in the told files
abbrev pub forward_in : Files → Seen → ℕ → List ℕ
forward_in files head column = bytes_in files (place_in head.sections (Forward column))

-- the section has an id below the count for each row
abbrev pub HasIds : Files → Seen → ℕ → Type 0
HasIds files head column = Readable (width_in head column) (count_in head column) 0 head.rows
    (forward_in files head column)

-- the ids of the rows in a column: those of the forward section, where files are told
pub record AreIdsOf (held : Option Files) (head : Seen) (column : ℕ) (ids : List ℕ) : Type 0 where
  pub count : length ids ≡ head.rows
  pub below : All (λ id. id < count_in head column) ids
  pub told : IfSome held (λ files. HasIds files head column ×
      (ids ≡ ids_between (width_in head column) 0 head.rows (forward_in files head column)))

-- the forward section of a column was read as far as there are ids, each byte once
abbrev pub LogsForward : Seen → ℕ → Option (List Entry) → Option (List Entry) → Type 0
LogsForward head column old new = IfSome (place_in head.sections (Forward column)) (λ place.
    LogsOn place.file (place.offset + first_byte (width_in head column) 0)
    (place.offset + end_byte (width_in head column) 0 head.rows) old new)

-- no more of it was read
abbrev pub LogsPart : Seen → ℕ → Option (List Entry) → Option (List Entry) → Type 0
LogsPart head column old new = IfSome (place_in head.sections (Forward column)) (λ place.
    LogsUpTo place.file (place.offset + first_byte (width_in head column) 0)
    (place.offset + end_byte (width_in head column) 0 head.rows) old new)

-- ---- all columns that are named, by the numbers of their fields

-- what is read of a column: nothing, or where it is named its ids
abbrev pub IsRead : Option Files → Seen → ℕ → Bool → Option (List ℕ) → Type 0
IsRead held head column false ids = ids ≡ None
IsRead held head column true None = ⊥
IsRead held head column true (Some ids) = AreIdsOf held head column ids

-- the reads of a column: none, or where it is named those of its forward section
abbrev pub LogsNamed : Seen → ℕ → Bool → Option (List Entry) → Option (List Entry) → Type 0
LogsNamed head column false old new = new ≡ old
LogsNamed head column true old new = LogsForward head column old new

-- the reads of the first so many columns, one column after the other
abbrev pub LogsColumns : Seen → List Bool → ℕ → Option (List Entry) → Option (List Entry) → Type 0
LogsColumns head named zero old new = new ≡ old
LogsColumns head named (suc n) old new = (between : Option (List Entry))
    × LogsColumns head named n old between × LogsNamed head n (get_or named n false) between new

-- nothing was read of the column, or where it is named a part of its forward section
abbrev pub LogsPartly : Seen → ℕ → Bool → Option (List Entry) → Option (List Entry) → Type 0
LogsPartly head column named old new = (new ≡ old) ⊎ ((named ≡ true) × LogsPart head column old new)

-- the reads of the first so many columns, and then no more than a part of those of the next one
pub record LogsSome (head : Seen) (named : List Bool) (old new : Option (List Entry)) : Type 0 where
  pub upto : ℕ
  pub within : upto ≤ length named
  pub between : Option (List Entry)
  pub before : LogsColumns head named upto old between
  pub rest : LogsPartly head upto (get_or named upto false) between new

-- why columns are not read: a forward section is named only where it belongs to a column that is
-- named, and has no id below the count for each row
abbrev pub IsFaultIn : Option Files → Seen → List Bool → EngineFault → Type 0
IsFaultIn held head named TooManyGroups = ⊥
IsFaultIn held head named (NotASegment part) =
    (column : ℕ) × (get_or named column false ≡ true) × (part ≡ Forward column)
    × IfSome held (λ files. ¬ HasIds files head column)
IsFaultIn held head named ReadFault = Unit {0}
IsFaultIn held head named NoMemory = Unit {0}

-- the same for one column
abbrev pub IsFaultAt : Option Files → Seen → ℕ → Bool → EngineFault → Type 0
IsFaultAt held head column named TooManyGroups = ⊥
IsFaultAt held head column named (NotASegment part) = (named ≡ true) × (part ≡ Forward column)
    × IfSome held (λ files. ¬ HasIds files head column)
IsFaultAt held head column named ReadFault = Unit {0}
IsFaultAt held head column named NoMemory = Unit {0}
