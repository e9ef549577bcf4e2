-- The dictionary of a column: its distinct values, each before all those after it in the order of
-- values.
use Rattle.std.specs.Prelude.{◌≡◌, ◌≤◌, ℕ, true, List, [], ◌∷◌, length}
use Rattle.std.specs.List.{All}
use Rattle.std.specs.List.Sorted.{IsStrictlySortedBy}
use Rattle.std.specs.Ordering.{match_ordering}
use Rattle.std.specs.Str.{IsUtf8}
use Rattle.data_types.specs.declared.kind.FieldKind.{FieldKind}
use Rattle.values.specs.declared.value.Value.{Value}
use Rattle.values.specs.declared.value.Value.TheVariants.{Whole, Text}
use Rattle.values.specs.Order.{value_order}
use Rattle.values.specs.Kinds.{fits}

-- the most values that a column has
abbrev pub most_values : ℕ
most_values = 1048576

-- a value that a field of the kind may have
abbrev pub Fits : FieldKind → Value → Type 0
Fits kind value = fits kind value ≡ true

-- the bytes of a text are UTF-8
abbrev pub IsUnicode : Value → Type 0
IsUnicode (Whole number) = Unit {0}
IsUnicode (Text text) = IsUtf8 text

-- values in ascending order, none of them twice
abbrev pub Ascends : List Value → Type 0
Ascends = IsStrictlySortedBy value_order

-- the values of a column of a kind, as a dictionary has them
pub record Distinct : Type 0 where
  pub kind : FieldKind
  pub values : List Value

-- values of one kind, few enough, ascending, none of them twice
pub record IsDictionary (d : Distinct) : Type 0 where
  pub at_most : length d.values ≤ most_values
  pub fit : All (Fits d.kind) d.values
  pub unicode : All IsUnicode d.values
  pub ascends : Ascends d.values

-- a value put in its place among ascending ones, unless it is there
abbrev pub put_in : Value → List Value → List Value
put_in value [] = value ∷ []
put_in value (least ∷ others) = match_ordering (value_order value least) (value ∷ least ∷ others)
    (least ∷ others) (least ∷ put_in value others)

-- the distinct values of a column, ascending
abbrev pub distinct : List Value → List Value
distinct [] = []
distinct (value ∷ column) = put_in value (distinct column)
