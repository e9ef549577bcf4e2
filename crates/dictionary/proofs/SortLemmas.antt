-- Values of a kind, put in a column of the kind.
use Rattle.std.proofs.Common.{◌≡◌, ◌∙◌, ◌<◌, ◌+◌, ◌++◌, ◌∷◌, [], ℕ, Bool, List, length, take, get_or, refl, sym, ap}
use Rattle.std.proofs.lemmas.Bool.{false≢true}
use Rattle.std.proofs.lemmas.List.{take_more}
use Rattle.std.specs.List.{All}
use Rattle.data_types.specs.declared.kind.FieldKind.{FieldKind}
use Rattle.data_types.specs.declared.kind.FieldKind.TheVariants as kind
use Rattle.values.specs.Columns.{is_text}
use Rattle.values.specs.Kinds.{is_of}
use Rattle.values.specs.declared.value.Value.{Value}
use Rattle.values.specs.declared.value.Value.TheVariants.{Whole, Text}
use Rattle.value_ids.specs.Dictionary.{Fits}

-- a value of a kind is of the sort of its columns
pub sort_suits : (k : FieldKind) (v : Value) → Fits k v → is_of k (Text []) ≡ is_text v
sort_suits kind.Int (Whole number) fit = refl
sort_suits kind.Int (Text text) fit = absurd (false≢true fit)
sort_suits kind.Long (Whole number) fit = refl
sort_suits kind.Long (Text text) fit = absurd (false≢true fit)
sort_suits kind.Text (Whole number) fit = absurd (false≢true fit)
sort_suits kind.Text (Text text) fit = refl

-- the value that comes next suits the column
pub next_suits : (k : FieldKind) (values : List Value) (at : ℕ) (v : Value) (texts : Bool) → All (Fits k) values → at < length values → v ≡ get_or values at v → texts ≡ is_of k (Text []) → texts ≡ is_text v
next_suits k values at v texts fit within is sort = sort ∙ sort_suits k (get_or values at v) (fit at v within) ∙ ap is_text (sym is)

pub next_put : (values old : List Value) (at : ℕ) (v : Value) → at < length values → v ≡ get_or values at v → old ≡ take at values → old ++ v ∷ [] ≡ take (at + 1) values
next_put values old at v within is so_far = ap (λ l. l ++ v ∷ []) so_far ∙ ap (λ w. take at values ++ w ∷ []) is ∙ sym (take_more values at v within)
