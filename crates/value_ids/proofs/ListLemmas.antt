-- Values of one sort, by the numbers or texts that they are.
use Rattle.std.proofs.Common.{◌≡◌, ◌∙◌, ◌<◌, [], ℕ, ℤ, pos, List, Some, length, map, get_or, slice_get, ap, arith}
use Rattle.std.proofs.lemmas.List.{get_or-map, length-map}
use Rattle.std.proofs.lemmas.Option.{get_or_from_slice_get}
use Rattle.std.specs.Cmp.Lexicographic.{slice_cmp}
use Rattle.std.specs.Ordering.{nat_cmp}
use Rattle.std.specs.declared.cmp.Ordering.TheVariants as order
use Rattle.values.specs.declared.value.Value.{Value}
use Rattle.values.specs.declared.value.Value.TheVariants.{Whole, Text}
use Rattle.values.specs.Order.{value_order}

pub number_at : (vs : List Value) (numbers : List ℤ) (at : ℕ) (d : Value) → vs ≡ map Whole numbers → at < length vs → get_or vs at d ≡ Whole (get_or numbers at (pos 0))
number_at vs numbers at d is within =
    ap (λ (xs : List Value). get_or xs at d) is ∙ get_or-map Whole numbers at (pos 0) d (omega (arith, within, ap length is, length-map numbers Whole))

pub text_at : (vs : List Value) (texts : List (List ℕ)) (at : ℕ) (d : Value) → vs ≡ map Text texts → at < length vs → get_or vs at d ≡ Text (get_or texts at [])
text_at vs texts at d is within =
    ap (λ (xs : List Value). get_or xs at d) is ∙ get_or-map Text texts at [] d (omega (arith, within, ap length is, length-map texts Text))

-- a number is before each text
pub number_before : (vs : List Value) (numbers : List ℤ) (at : ℕ) (d bound : Value) (t : List ℕ) → vs ≡ map Whole numbers → at < length vs → bound ≡ Text t → value_order (get_or vs at d) bound ≡ order.Less
number_before vs numbers at d bound t is within text = (λ i. value_order (number_at vs numbers at d is within i) (text i))

pub text_after : (vs : List Value) (texts : List (List ℕ)) (at : ℕ) (d bound : Value) (n : ℤ) → vs ≡ map Text texts → at < length vs → bound ≡ Whole n → value_order (get_or vs at d) bound ≡ order.Greater
text_after vs texts at d bound n is within whole = (λ i. value_order (text_at vs texts at d is within i) (whole i))

pub texts_compared : (vs : List Value) (at : ℕ) (d bound : Value) (s t : List ℕ) → slice_get vs at ≡ Some (Text s) → bound ≡ Text t → value_order (get_or vs at d) bound ≡ slice_cmp nat_cmp s t
texts_compared vs at d bound s t own text = (λ i. value_order (get_or_from_slice_get vs at (Text s) d own i) (text i))
