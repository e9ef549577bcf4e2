-- A dictionary of numbers whose bytes are taken piece by piece.
use Rattle.std.specs.Prelude.{◌≡◌, ◌≢◌, ℕ, List}
use Rattle.std.specs.List.{All}
use Rattle.data_types.specs.declared.kind.FieldKind.{FieldKind}
use Rattle.values.specs.declared.value.Value.{Value}
use Rattle.value_ids.specs.Dictionary.{Ascends, Fits, IsDictionary, IsUnicode}
use Rattle.dictionary.specs.Spelling.{numbers}

-- the bytes spell these values, which may be the first of a dictionary of the kind
pub record AreNumbersOf (kind : FieldKind) (bytes : List ℕ) (values : List Value) : Type 0 where
  pub spelled : bytes ≡ numbers values
  pub fit : All (Fits kind) values
  pub unicode : All IsUnicode values
  pub ascends : Ascends values

-- the bytes are those of the numbers of no dictionary of the kind
abbrev pub NoNumbers : FieldKind → List ℕ → Type 0
NoNumbers kind bytes = (values : List Value) → IsDictionary
    (record { kind = kind; values = values }) → bytes ≢ numbers values
