-- Sections of files, and which bytes of them hold a range of ids.
use Rattle.std.specs.Prelude.{◌≡◌, ◌≤◌, ◌<◌, ℕ, ◌-◌, ◌*◌, ◌/◌, List, ◌++◌, All, length, Option, Some, IfSome, nat_lt, if◌then◌else◌}
use Rattle.outside.specs.Files.{Files, bytes_at, bytes_of}
use Rattle.outside.specs.declared.place.Place.{Place}
use Rattle.bit_column.specs.Column.{bytes_for, ids_between}

-- the byte in which the ids from an index on begin
abbrev pub first_byte : ℕ → ℕ → ℕ
first_byte width from = from * width / 8

-- the byte after the last one that has a bit of the ids between two indexes; a range without ids
-- has no bytes
abbrev pub end_byte : ℕ → ℕ → ℕ → ℕ
end_byte width from to = if nat_lt from to then bytes_for (to * width) else first_byte width from

-- the bytes of a section: those of its file from the offset on, up to the length, as many as there
-- are. A file that is not there has none
abbrev pub section : Files → Place → List ℕ
section files place = bytes_at files place.file place.offset place.length

-- these are the bytes of a told file from one offset to another, which it reaches; a file that is
-- not there is empty
abbrev pub IsPart : Option Files → List ℕ → ℕ → ℕ → List ℕ → Type 0
IsPart held name from to bytes =
    IfSome held (λ files. (to ≤ length (bytes_of (Some files) name))
    × (bytes ≡ bytes_at files name from (to - from)))

-- the bytes have all bits of the ids between two indexes
abbrev pub Reach : ℕ → ℕ → ℕ → List ℕ → Type 0
Reach width from to bytes = from < to → to * width ≤ 8 * length bytes

-- the bytes have the ids between two indexes, each of them below the count
abbrev pub Readable : ℕ → ℕ → ℕ → ℕ → List ℕ → Type 0
Readable width count from to bytes = Reach width from to bytes
    × All (λ id. id < count) (ids_between width from to bytes)

-- the ids between two indexes were appended to a list, as many as there are, each of them below the
-- count
pub record AppendsRange (held : Option Files) (place : Place) (width count from to : ℕ)
    (old new : List ℕ) : Type 0 where
  pub ids : List ℕ
  pub appended : new ≡ old ++ ids
  pub number : length ids ≡ to - from
  pub below : All (λ id. id < count) ids
  pub told : IfSome held (λ files. Readable width count from to (section files place)
      × (ids ≡ ids_between width from to (section files place)))
