-- The order of values is total, and its ties are the equal values.
use Rattle.std.specs.Prelude.{◌≡◌, true, Some, refl}
use Rattle.std.specs.declared.cmp.Ordering.TheVariants.{Less, Equal, Greater}
use Rattle.std.specs.Ordering.{ordering_reverse, eq_by_cmp, is_eq, is_gt}
use Rattle.std.specs.Cmp.{IsTotalOrder, IsEquivalence, IsPartialOrder, int_cmp_total, int_eq_equiv, partial_order_from_agreeing_total}
use Rattle.std.specs.Cmp.Lexicographic.{nat_list_cmp_total, nat_list_eq_equiv, texts_ties}
use Rattle.std.proofs.Common.{ap, sym}
use Rattle.std.proofs.lemmas.Bool.{false≢true}
use Rattle.values.specs.declared.value.Value.{Value}
use Rattle.values.specs.declared.value.Value.TheVariants.{Whole, Text}
use Rattle.values.specs.Order.{value_order, value_eq}

antisymm : (a b : Value) → value_order a b ≡ ordering_reverse (value_order b a)
antisymm (Whole x) (Whole y) = int_cmp_total.antisymm x y
antisymm (Whole x) (Text t) = refl
antisymm (Text s) (Whole y) = refl
antisymm (Text s) (Text t) = nat_list_cmp_total.antisymm s t

greater_is_not_less : Greater ≡ Less → ⊥
greater_is_not_less e = false≢true (ap is_gt (sym e))

trans : (a b c : Value) → value_order a b ≡ Less → value_order b c ≡ Less → value_order a c ≡ Less
trans (Whole x) (Whole y) (Whole z) p q = int_cmp_total.trans x y z p q
trans (Whole x) (Whole y) (Text t) p q = refl
trans (Whole x) (Text t) (Whole z) p q = absurd (greater_is_not_less q)
trans (Whole x) (Text t) (Text u) p q = refl
trans (Text s) (Whole y) c p q = absurd (greater_is_not_less p)
trans (Text s) (Text t) (Whole z) p q = absurd (greater_is_not_less q)
trans (Text s) (Text t) (Text u) p q = nat_list_cmp_total.trans s t u p q

congr : (a b c : Value) → value_order a b ≡ Equal → value_order a c ≡ value_order b c
congr (Whole x) (Whole y) (Whole z) e = int_cmp_total.congr x y z e
congr (Whole x) (Whole y) (Text t) e = refl
congr (Whole x) (Text t) c e = absurd (false≢true (ap is_eq e))
congr (Text s) (Whole y) c e = absurd (false≢true (ap is_eq e))
congr (Text s) (Text t) (Whole z) e = refl
congr (Text s) (Text t) (Text u) e = nat_list_cmp_total.congr s t u e

-- the order of values is total
pub value_order-total : IsTotalOrder value_order
value_order-total = record { antisymm = antisymm; trans = trans; congr = congr }

-- values are equal exactly where the order does not tell them apart
pub value_eq-ties : (a b : Value) → value_eq a b ≡ eq_by_cmp value_order a b
value_eq-ties (Whole x) (Whole y) = refl
value_eq-ties (Whole x) (Text t) = refl
value_eq-ties (Text s) (Whole y) = refl
value_eq-ties (Text s) (Text t) = texts_ties s t

eq_refl : (a : Value) → value_eq a a ≡ true
eq_refl (Whole x) = int_eq_equiv.refl x
eq_refl (Text s) = nat_list_eq_equiv.refl s

eq_symm : (a b : Value) → value_eq a b ≡ value_eq b a
eq_symm (Whole x) (Whole y) = int_eq_equiv.symm x y
eq_symm (Whole x) (Text t) = refl
eq_symm (Text s) (Whole y) = refl
eq_symm (Text s) (Text t) = nat_list_eq_equiv.symm s t

eq_congr : (a b c : Value) → value_eq a b ≡ true → value_eq a c ≡ value_eq b c
eq_congr (Whole x) (Whole y) (Whole z) e = int_eq_equiv.congr x y z e
eq_congr (Whole x) (Whole y) (Text t) e = refl
eq_congr (Whole x) (Text t) c e = absurd (false≢true e)
eq_congr (Text s) (Whole y) c e = absurd (false≢true e)
eq_congr (Text s) (Text t) (Whole z) e = refl
eq_congr (Text s) (Text t) (Text u) e = nat_list_eq_equiv.congr s t u e

-- equality of values is an equivalence
pub value_eq-equiv : IsEquivalence value_eq
value_eq-equiv = record { refl = eq_refl; symm = eq_symm; congr = eq_congr }

-- the order and the equality of values agree
pub value_order-partial : IsPartialOrder value_eq (λ a b. Some (value_order a b))
value_order-partial = partial_order_from_agreeing_total value_order value_order-total
    (λ a b. refl) value_eq-ties
