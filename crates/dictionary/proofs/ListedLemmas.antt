-- What is written of values that are all numbers, or all texts.
use Rattle.std.proofs.Common.{◌≡◌, ◌∙◌, ◌<◌, ◌≤◌, [], ◌∷◌, ℕ, pos, Some, List, length, map, get_or, slice_get, refl, sym, ap, arith}
use Rattle.std.proofs.lemmas.Option.{get_or_from_slice_get}
use Rattle.std.specs.List.{All}
use Rattle.data_types.specs.declared.kind.FieldKind.TheVariants as kind
use Rattle.values.specs.declared.value.Value.{Value}
use Rattle.values.specs.declared.value.Value.TheVariants.{Whole, Text}
use Rattle.value_ids.specs.Dictionary.{Fits}
use Rattle.value_ids.specs.Lists.{AreNumbers, AreTexts}
use Rattle.value_ids.proofs.ListLemmas.{number_at}
use Rattle.dictionary.specs.Spelling.{number_bytes, numbers, text_bytes}
use Rattle.dictionary.proofs.Written.{text_few}

no_bytes : (texts : List (List ℕ)) → numbers (map Text texts) ≡ []
unfolding number_bytes
no_bytes [] = refl
no_bytes (t ∷ ts) = no_bytes ts

-- texts are no numbers
pub no_numbers : (values : List Value) → AreTexts values → numbers values ≡ []
no_numbers values texts = ap numbers texts.1 ∙ no_bytes texts.0

-- a number has no text
pub no_text_at : (values : List Value) (at : ℕ) → AreNumbers values → at < length values → [] ≡ text_bytes (get_or values at (Whole (pos 0)))
no_text_at values at numbers within = sym (ap text_bytes (number_at values numbers.0 at (Whole (pos 0)) numbers.1 within))

pub text_is_at : (values : List Value) (at : ℕ) (bytes : List ℕ) → slice_get values at ≡ Some (Text bytes) → bytes ≡ text_bytes (get_or values at (Whole (pos 0)))
text_is_at values at bytes got = sym (ap text_bytes (get_or_from_slice_get values at (Text bytes) (Whole (pos 0)) got))

pub text_short : (values : List Value) (at : ℕ) (bytes : List ℕ) → All (Fits kind.Text) values → at < length values → bytes ≡ text_bytes (get_or values at (Whole (pos 0))) → length bytes ≤ 512
text_short values at bytes fit within is = omega (arith, ap length is, text_few (get_or values at (Whole (pos 0))) (fit at (Whole (pos 0)) within))
