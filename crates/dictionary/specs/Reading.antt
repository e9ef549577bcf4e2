-- What the reading of a dictionary's body finds.
use Rattle.std.specs.Prelude.{◌≡◌, ◌≢◌, ◌≤◌, ◌+◌, ◌-◌, ◌++◌, ℕ, Bool, true, List, ◌∷◌, length, Option, Some, None, Result, IfErr, IfOk, slice_get}
use Rattle.std.specs.Ordering.{is_lt}
use Rattle.std.specs.Str.{IsUtf8}
use Rattle.data_types.specs.declared.kind.FieldKind.{FieldKind}
use Rattle.values.specs.declared.value.Value.{Value}
use Rattle.values.specs.declared.value.Value.TheVariants.{Text}
use Rattle.values.specs.Order.{value_order}
use Rattle.value_ids.specs.Dictionary.{Distinct, IsDictionary}
use Rattle.dictionary.specs.Spelling.{body, counted, offsets, spelling, texts}
use Rattle.dictionary.specs.declared.fault.DictFault.{DictFault}
use Rattle.dictionary.specs.declared.fault.DictFault.TheVariants.{BadDictionary}

-- bytes are read as a dictionary of a kind: it is that whose spelling they are, or they are that of
-- none
pub record Checks (kind : FieldKind) (bytes : List ℕ) (result : Result Distinct DictFault)
    : Type 0 where
  pub kind_is : IfOk result (λ d. d.kind ≡ kind)
  pub ok : IfOk result (λ d. bytes ≡ spelling d)
  pub bad : IfErr result (λ fault. fault ≡ BadDictionary → (d : Distinct) → IsDictionary d
      → d.kind ≡ kind → bytes ≢ spelling d)
  pub valid : IfOk result IsDictionary

-- the bytes are the body of these values, which are a dictionary
pub record IsBody (kind : FieldKind) (count : ℕ) (bytes : List ℕ) (values : List Value)
    : Type 0 where
  pub stands : IsDictionary (record { kind = kind; values = values })
  pub counted : length values ≡ count
  pub spelled : bytes ≡ body kind values

-- the bytes are the body of no dictionary of so many values
abbrev pub NoBody : FieldKind → ℕ → List ℕ → Type 0
NoBody kind count bytes = (values : List Value) → IsDictionary
    (record { kind = kind; values = values }) → length values ≡ count → bytes ≢ body kind values

-- the value is greater than the last one, if there is one
abbrev pub is_above : Option Value → Value → Bool
is_above None value = true
is_above (Some last) value = is_lt (value_order last value)

-- whether a value is greater than the last one, if there is one
abbrev pub is_above_last : List Value → Value → Bool
is_above_last values value = is_above (slice_get values (length values - 1)) value

-- what is left of the offsets and of the bytes of texts, where the next text begins at `start`
pub record Left : Type 0 where
  pub start : ℕ
  pub offsets : List ℕ
  pub texts : List ℕ

-- it is spelled of these values
abbrev pub Spells : Left → List Value → Type 0
Spells left values = (counted left.start ++ left.offsets ≡ offsets left.start values)
    × (left.texts ≡ texts values)

-- no text that a dictionary may have is the next
abbrev pub NoNext : Left → Type 0
NoNext left = (text : List ℕ) (more : List Value) → length text ≤ 512 → IsUtf8 text
    → ¬ (Spells left (Text text ∷ more))

-- the text is the next, and what is left after it
pub record IsNext (left : Left) (text : List ℕ) (following : Left) : Type 0 where
  pub short : length text ≤ 512
  pub unicode : IsUtf8 text
  pub near : following.start ≤ left.start + 512
  pub end : following.start ≡ left.start + length text
  pub parts : left.texts ≡ text ++ following.texts
  pub offset : length left.offsets ≡ length following.offsets + 4
  pub forth : (more : List Value) → Spells following more → Spells left (Text text ∷ more)
  pub back : (other : List ℕ) (more : List Value) → length other ≤ 512
      → Spells left (Text other ∷ more) → (other ≡ text) × Spells following more
