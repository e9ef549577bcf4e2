-- The bytes of a place, as they were read of its file.
use Rattle.std.proofs.Common.{◌≡◌, ◌∙◌, ◌<◌, ◌≤◌, ◌+◌, ◌-◌, ℕ, List, length, take, drop, Option, Some, None, IfSome, sym, ap, subst, arith}
use Rattle.std.proofs.lemmas.List.{drop-drop, drop-take, length-drop, length-take, take-take}
use Rattle.outside.specs.Files.{Files, Lacks, bytes_at, bytes_of}
use Rattle.outside.specs.declared.place.Place.{Place}
use Rattle.outside.proofs.ReadLemmas.{lacking}
use Rattle.bit_column.specs.Sections.{section}
use Rattle.bit_column.proofs.Ranges.{section-long}
use Rattle.dictionary_reading.specs.InFile.{part}

part_of : (files : Files) (place : Place) (from count : ℕ) → from + count ≤ place.length → part from count (section files place) ≡ bytes_at files place.file (place.offset + from) count
part_of files place from count within =
    let file = bytes_of (Some files) place.file in
    let e : place.length ≡ from + (place.length - from) = omega (arith, within) in
    ap (λ k. take count (drop from (take k (drop place.offset file)))) e
    ∙ ap (take count) (drop-take from (place.length - from) (drop place.offset file))
    ∙ take-take count (place.length - from) (drop from (drop place.offset file)) (omega (arith, within))
    ∙ ap (take count) (drop-drop from place.offset file)

pub part_read : (held : Option Files) (place : Place) (from count : ℕ) (file bytes : List ℕ) → file ≡ place.file → from + count ≤ place.length → IfSome held (λ files. bytes ≡ bytes_at files file (place.offset + from) count) → IfSome held (λ files. bytes ≡ part from count (section files place))
part_read None place from count file bytes named within read = tt
part_read (Some files) place from count file bytes named within read = read ∙ ap (λ f. bytes_at files f (place.offset + from) count) named ∙ sym (part_of files place from count within)

-- fewer bytes came than are in the place
pub read_short : (held : Option Files) (place : Place) (from count : ℕ) (file bytes : List ℕ) → file ≡ place.file → from + count ≤ place.length → length bytes < count → IfSome held (λ files. bytes ≡ bytes_at files file (place.offset + from) count) → IfSome held (λ files. length (section files place) < place.length)
read_short None place from count file bytes named within few read = tt
read_short (Some files) place from count name bytes named within few read =
    let file = bytes_of (Some files) place.file in
    let read : bytes ≡ bytes_at files place.file (place.offset + from) count = read ∙ ap (λ f. bytes_at files f (place.offset + from) count) named in
    omega (arith, within, few, ap length read, length-take count (drop (place.offset + from) file), length-drop (place.offset + from) file, section-long files place)

-- a file that is not there has no bytes
pub lacking_short : (held : Option Files) (place : Place) (file : List ℕ) → file ≡ place.file → 0 < place.length → Lacks held file → IfSome held (λ files. length (section files place) < place.length)
lacking_short None place file named some lacks = tt
lacking_short (Some files) place file named some lacks =
    omega (arith, some, ap length (lacking files place.file (subst (λ f. Lacks (Some files) f) named lacks)), section-long files place)
