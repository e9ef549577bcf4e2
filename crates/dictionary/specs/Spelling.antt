-- How a dictionary is spelled in a segment's file. Numbers have the most significant byte first.
use Rattle.std.specs.Prelude.{◌≡◌, ◌+◌, ◌++◌, ℕ, List, [], ◌∷◌, length}
use Rattle.std.specs.Int.{w32, w64, to_be_bytes, cast_unsigned}
use Rattle.data_types.specs.declared.kind.FieldKind.{FieldKind}
use Rattle.data_types.specs.declared.kind.FieldKind.TheVariants as kind
use Rattle.values.specs.declared.value.Value.{Value}
use Rattle.values.specs.declared.value.Value.TheVariants.{Whole, Text}
use Rattle.value_ids.specs.Dictionary.{Distinct, IsDictionary}

-- four bytes
unfoldable pub counted : ℕ → List ℕ
counted n = to_be_bytes w32 n

-- a whole number: eight bytes, in two's complement
unfoldable pub number_bytes : Value → List ℕ
number_bytes (Whole number) = to_be_bytes w64 (cast_unsigned w64 number)
number_bytes (Text text) = []

-- the bytes of numbers
abbrev pub numbers : List Value → List ℕ
numbers [] = []
numbers (value ∷ values) = number_bytes value ++ numbers values

-- a text: its bytes
abbrev pub text_bytes : Value → List ℕ
text_bytes (Whole number) = []
text_bytes (Text text) = text

-- the bytes of texts, one after the other
abbrev pub texts : List Value → List ℕ
texts [] = []
texts (value ∷ values) = text_bytes value ++ texts values

-- where each text begins among the bytes of all texts, and where the last one ends, if the first
-- begins at `start`
abbrev pub offsets : ℕ → List Value → List ℕ
offsets start [] = counted start
offsets start (value ∷ values) = counted start ++ offsets (start + length (text_bytes value)) values

-- what follows the number of values
abbrev pub body : FieldKind → List Value → List ℕ
body kind.Int values = numbers values
body kind.Long values = numbers values
body kind.Text values = offsets 0 values ++ texts values

-- the bytes of a dictionary: how many values there are, and the values
abbrev pub spelling : Distinct → List ℕ
spelling d = counted (length d.values) ++ body d.kind d.values

-- the bytes are others with more after them
abbrev pub IsExtended : List ℕ → List ℕ → Type 0
IsExtended old new = (more : List ℕ) × (new ≡ old ++ more)

-- bytes spell at most one dictionary of a kind
abbrev pub SpellsOne : Type 0
SpellsOne = (a b : Distinct) → IsDictionary a → IsDictionary b → a.kind ≡ b.kind
    → spelling a ≡ spelling b → a ≡ b
