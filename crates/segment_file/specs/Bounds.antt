-- The bounds of columns, as a file has them: the least and the greatest value of each.
use Rattle.std.specs.Prelude.{◌≡◌, ◌≤◌, ℕ, List, [], ◌∷◌, ◌++◌, length, slice_index_or, zero, suc}
use Rattle.std.specs.List.{AllZip, flat_map}
use Rattle.data_types.specs.declared.kind.FieldKind.{FieldKind}
use Rattle.values.specs.declared.value.Value.{Value}
use Rattle.values.specs.declared.value.Value.TheVariants.{Whole, Text}
use Rattle.table_schema.specs.declared.field.Field.{Field}
use Rattle.value_ids.specs.Dictionary.{Distinct, Fits, IsUnicode}
use Rattle.dictionary.specs.Spelling.{number_bytes}
use Rattle.segment_file.specs.Front.{short}
use Rattle.segment_file.specs.declared.bounds.Ends.{Ends}

-- a number, or a text that is as short as one of a row
abbrev pub IsShort : Value → Type 0
IsShort (Whole number) = Unit {0}
IsShort (Text text) = length text ≤ 512

-- a number as eight bytes, a text after its length
abbrev pub bound_bytes : Value → List ℕ
bound_bytes (Whole number) = number_bytes (Whole number)
bound_bytes (Text text) = short (length text) ++ text

-- the least and then the greatest value
abbrev pub pair_bytes : Ends → List ℕ
pair_bytes ends = bound_bytes ends.least ++ bound_bytes ends.greatest

-- the ends of ascending values, if there are some
abbrev pub ends_of : List Value → List Ends
ends_of [] = []
ends_of (least ∷ values) = record {
  least = least;
  greatest = slice_index_or (least ∷ values)
      (length values) least;
} ∷ []

-- the bounds of columns with these dictionaries; a column without values has none
abbrev pub bounds_of : List Distinct → List Ends
bounds_of dictionaries = flat_map (λ d. ends_of d.values) dictionaries

-- the bytes of bounds
abbrev pub bounds_bytes : List Ends → List ℕ
bounds_bytes bounds = flat_map pair_bytes bounds

-- ---- bytes that are read as bounds

-- a value that a field of the kind may have
pub record MayBound (kind : FieldKind) (value : Value) : Type 0 where
  pub fit : Fits kind value
  pub unicode : IsUnicode value

-- the bytes begin with this value, and these are after it
pub record IsBound (kind : FieldKind) (bytes : List ℕ) (value : Value) (rest : List ℕ)
    : Type 0 where
  pub may : MayBound kind value
  pub spelled : bytes ≡ bound_bytes value ++ rest

-- the bytes begin with no value of the kind
abbrev pub NoBound : FieldKind → List ℕ → Type 0
NoBound kind bytes = (value : Value) (rest : List ℕ) → ¬ IsBound kind bytes value rest

-- the bounds of a field of the kind
abbrev pub MayEnd : Field → Ends → Type 0
MayEnd field ends = MayBound field.kind ends.least × MayBound field.kind ends.greatest

-- the bytes are the bounds of these fields
pub record AreBounds (fields : List Field) (bytes : List ℕ) (bounds : List Ends) : Type 0 where
  pub each : AllZip MayEnd fields bounds
  pub spelled : bytes ≡ bounds_bytes bounds

-- the fields that have bounds: none where there are no rows
abbrev pub bounded : ℕ → List Field → List Field
bounded zero fields = []
bounded (suc rows) fields = fields
