-- Dictionaries that are read where they lie in a file.
use Rattle.std.specs.Prelude.{◌≡◌, ◌≤◌, ◌<◌, ◌+◌, ◌-◌, ◌*◌, ◌^◌, ◌++◌, ℕ, List, length, take, drop, Option, IfSome, option_map, sum_by}
use Rattle.std.specs.List.{All}
use Rattle.outside.specs.Files.{Files}
use Rattle.outside.specs.Reads.{Entry}
use Rattle.outside.specs.declared.place.Place.{Place}
use Rattle.data_types.specs.declared.kind.FieldKind.{FieldKind}
use Rattle.data_types.specs.declared.kind.FieldKind.TheVariants as kind
use Rattle.values.specs.declared.value.Value.{Value}
use Rattle.value_ids.specs.Dictionary.{Distinct, IsDictionary, most_values}
use Rattle.bit_column.specs.Sections.{section}
use Rattle.dictionary.specs.Spelling.{numbers, offsets, spelling, texts}
use Rattle.dictionary_reading.specs.declared.in_file.FileDictionary.{FileDictionary}
use Rattle.dictionary_reading.specs.declared.block.Block.{Block}

-- so many bytes from one on
abbrev pub part : ℕ → ℕ → List ℕ → List ℕ
part from count bytes = take count (drop from bytes)

-- ---- what lies at a place

-- the told bytes of the place are the spelling of a dictionary of the kind
pub record IsSpelledAt (kind : FieldKind) (files : Files) (place : Place) (d : Distinct)
    : Type 0 where
  pub stands : IsDictionary d
  pub kind_is : d.kind ≡ kind
  pub spelled : section files place ≡ spelling d
  pub whole : place.length ≡ length (spelling d)

-- where files are told: if a dictionary of the kind and of so many values is spelled at the place,
-- it has P
abbrev pub OfDictionary : FileDictionary → Option Files → (Distinct → Type 0) → Type 0
OfDictionary at held P = IfSome held (λ files. (d : Distinct) → IsSpelledAt at.kind files at.place d
    → at.count ≡ length d.values → P d)

-- ---- how long it is

-- the bytes before the texts, or those of the numbers
abbrev pub room_of : FieldKind → ℕ → ℕ
room_of kind.Int count = 4 + 8 * count
room_of kind.Long count = 4 + 8 * count
room_of kind.Text count = 8 + 4 * count

-- the values are few enough, and the place has room for them
pub record HasRoom (at : FileDictionary) : Type 0 where
  pub few : at.count ≤ most_values
  pub fits : at.place.offset + at.place.length < 2 ^ 64
  pub room : room_of at.kind at.count ≤ at.place.length

-- ---- values that follow one another

-- where a text begins among the bytes of all texts
abbrev pub start_of : List Value → ℕ → ℕ
start_of values id = length (texts (take id values))

-- the bytes say where the texts from one id up to another begin, and where the last of them ends
abbrev pub AreStarts : List Value → ℕ → ℕ → List ℕ → Type 0
AreStarts values from to starts = starts ≡ part (4 * from) (4 * (to - from) + 4) (offsets 0 values)

-- the bytes are those of the values from one id up to another
abbrev pub IsBodyOf : FieldKind → List Value → Block → Type 0
IsBodyOf kind.Int values b = b.body ≡ part (8 * b.from) (8 * (b.to - b.from)) (numbers values)
IsBodyOf kind.Long values b = b.body ≡ part (8 * b.from) (8 * (b.to - b.from)) (numbers values)
IsBodyOf kind.Text values b =
    AreStarts values b.from b.to b.starts × (b.body ≡ part (start_of values b.from)
    (start_of values b.to - start_of values b.from) (texts values))

-- a block has the bytes of values of a dictionary
pub record IsBlockOf (d : Distinct) (b : Block) : Type 0 where
  pub stands : IsDictionary d
  pub kind_is : d.kind ≡ b.kind
  pub within : b.to ≤ length d.values
  pub body_is : IsBodyOf b.kind d.values b

-- how many bytes a block has, whatever a device gives
abbrev pub IsSized : FieldKind → Block → Type 0
IsSized kind.Int b = length b.body ≡ 8 * (b.to - b.from)
IsSized kind.Long b = length b.body ≡ 8 * (b.to - b.from)
IsSized kind.Text b = length b.starts ≡ 4 * (b.to - b.from) + 4

pub record IsBlock (b : Block) : Type 0 where
  pub order : b.from ≤ b.to
  pub few : b.to ≤ most_values
  pub sized : IsSized b.kind b

-- ---- what is read

-- this read is of the place
pub record IsInside (place : Place) (entry : Entry) : Type 0 where
  pub file : entry.file ≡ place.file
  pub from : place.offset ≤ entry.offset
  pub to : entry.offset + entry.count ≤ place.offset + place.length

-- the told log grew by reads of the place, which gave at most so many bytes together
pub record LogsInside (place : Place) (most : ℕ) (old new : Option (List Entry)) : Type 0 where
  pub entries : List Entry
  pub grown : new ≡ option_map (λ before. before ++ entries) old
  pub inside : All (IsInside place) entries
  pub few : sum_by (λ entry. entry.count) entries ≤ most
