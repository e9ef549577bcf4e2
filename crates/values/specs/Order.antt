-- The order of values: numbers by value, texts by their bytes, a number before a text.
pub mod Laws
use Rattle.std.specs.Prelude.{ℤ, ℕ, List, Bool, true, false, nat_eq}
use Rattle.std.specs.declared.cmp.Ordering.{Ordering}
use Rattle.std.specs.declared.cmp.Ordering.TheVariants.{Less, Greater}
use Rattle.std.specs.Ordering.{int_cmp, int_eq, nat_cmp}
use Rattle.std.specs.Cmp.Lexicographic.{slice_cmp, pointwise}
use Rattle.values.specs.declared.value.Value.{Value}
use Rattle.values.specs.declared.value.Value.TheVariants.{Whole, Text}

-- numbers by value before texts by their bytes
abbrev pub value_order : Value → Value → Ordering
value_order (Whole x) (Whole y) = int_cmp x y
value_order (Whole x) (Text t) = Less
value_order (Text s) (Whole y) = Greater
value_order (Text s) (Text t) = slice_cmp nat_cmp s t

-- whether two values are the same
abbrev pub value_eq : Value → Value → Bool
value_eq (Whole x) (Whole y) = int_eq x y
value_eq (Whole x) (Text t) = false
value_eq (Text s) (Whole y) = false
value_eq (Text s) (Text t) = pointwise nat_eq s t
