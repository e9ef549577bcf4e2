-- A dictionary of numbers whose bytes are read piece by piece (inside the crate alone).
use Rattle.std.specs.Prelude.{◌≡◌, ◌≤◌, ◌<◌, ◌+◌, ◌*◌, ◌⊎◌, ℕ, List, drop, length, Option, IfSome}
use Rattle.outside.specs.Files.{EndsBefore, Files}
use Rattle.outside.specs.declared.place.Place.{Place}
use Rattle.bit_column.specs.Sections.{section}
use Rattle.data_types.specs.declared.kind.FieldKind.{FieldKind}
use Rattle.values.specs.declared.value.Value.{Value}
use Rattle.value_ids.specs.Dictionary.{most_values}
use Rattle.dictionary.specs.Pieces.{AreNumbersOf, NoNumbers}
use Rattle.segment_file.specs.declared.part.Part.{Part}
use Rattle.segment_file.specs.declared.part.Part.TheVariants.{Dictionary, Head}

-- so many numbers may be a dictionary of so many bytes, in a file of so many rows
pub record IsPossible (count rows size : ℕ) : Type 0 where
  pub few : count ≤ rows
  pub most : count ≤ most_values
  pub some : 0 < rows → 0 < count
  pub room : size ≡ 4 + 8 * count

-- the bytes of a place after the first four spell these numbers
pub record HasNumbers (kind : FieldKind) (held : Option Files) (place : Place) (values : List Value)
    : Type 0 where
  pub bytes : List ℕ
  pub size : length bytes + 4 ≡ place.length
  pub are : AreNumbersOf kind bytes values
  pub told : IfSome held (λ files. bytes ≡ drop 4 (section files place))

-- the head, where files are told one that ends before the place does, or the dictionary, whose
-- bytes after the first four are those of the numbers of none
abbrev pub FailsPieces : FieldKind → ℕ → Option Files → Place → Part → Type 0
FailsPieces kind column held place p =
    ((p ≡ Head) × EndsBefore held place.file (place.offset + place.length))
    ⊎ ((p ≡ Dictionary column)
    × IfSome held (λ files. NoNumbers kind (drop 4 (section files place))))
