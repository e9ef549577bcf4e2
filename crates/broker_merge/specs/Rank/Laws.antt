-- The order of what groups are compared by is total.
use Rattle.std.specs.Prelude.{◌≡◌, Bool, true, false, Some, refl}
use Rattle.std.specs.declared.cmp.Ordering.TheVariants.{Less, Equal}
use Rattle.std.specs.Ordering.{ordering_reverse, eq_by_cmp}
use Rattle.std.specs.Cmp.{IsTotalOrder, IsEquivalence, IsPartialEquivalence, IsPartialOrder}
use Rattle.std.specs.Cmp.{partial_equiv_from_equiv, partial_order_from_agreeing_total}
use Rattle.std.specs.Cmp.Lexicographic.{lists_total}
use Rattle.std.proofs.Common.{ap, sym, ◌∙◌}
use Rattle.std.proofs.lemmas.Cmp.{eq_by_cmp_equiv}
use Rattle.values.specs.Order.Laws.{value_order-total}
use Rattle.agg_laws.specs.laws.Order.{state_order_total}
use Rattle.group_table.specs.Groups.{key_order}
use Rattle.broker_merge.specs.Rank.{Seen, OfValue, OfState, OfKey, seen_order}
use Rattle.broker_merge.specs.Rank.{turned_order, placed_order}

key_total : IsTotalOrder key_order
key_total = lists_total value_order-total

antisymm : (a b : Seen) → seen_order a b ≡ ordering_reverse (seen_order b a)
antisymm (OfValue a) (OfValue b) = value_order-total.antisymm a b
antisymm (OfState a) (OfState b) = state_order_total.antisymm a b
antisymm (OfKey a) (OfKey b) = key_total.antisymm a b
antisymm a b = refl

trans : (a b c : Seen) → seen_order a b ≡ Less → seen_order b c ≡ Less → seen_order a c ≡ Less
trans (OfValue a) (OfValue b) (OfValue c) p q = value_order-total.trans a b c p q
trans (OfState a) (OfState b) (OfState c) p q = state_order_total.trans a b c p q
trans (OfKey a) (OfKey b) (OfKey c) p q = key_total.trans a b c p q
trans a (OfValue b) (OfValue c) p q = cc
trans a (OfState b) (OfState c) p q = cc
trans a (OfKey b) (OfKey c) p q = cc
trans a b c p q = cc

congr : (a b c : Seen) → seen_order a b ≡ Equal → seen_order a c ≡ seen_order b c
congr (OfValue a) (OfValue b) (OfValue c) p = value_order-total.congr a b c p
congr (OfState a) (OfState b) (OfState c) p = state_order_total.congr a b c p
congr (OfKey a) (OfKey b) (OfKey c) p = key_total.congr a b c p
congr a (OfValue b) (OfValue c) p = cc
congr a (OfState b) (OfState c) p = cc
congr a (OfKey b) (OfKey c) p = cc
congr a b c p = cc

-- the other way round
back : (a b : Seen) → ordering_reverse (seen_order a b) ≡ seen_order b a
back a b = sym (antisymm b a)

turned_antisymm : (s t : Bool) (a b : Seen)
    → turned_order s t a b ≡ ordering_reverse (turned_order t s b a)
turned_antisymm false false a b = antisymm a b
turned_antisymm true true a b = ap ordering_reverse (antisymm a b)
turned_antisymm false true a b = refl
turned_antisymm true false a b = refl

turned_trans : (s t u : Bool) (a b c : Seen) → turned_order s t a b ≡ Less
    → turned_order t u b c ≡ Less → turned_order s u a c ≡ Less
turned_trans false false false a b c p q = trans a b c p q
turned_trans false false true a b c p q = refl
turned_trans false true false a b c p q = cc
turned_trans false true true a b c p q = refl
turned_trans true false u a b c p q = cc
turned_trans true true false a b c p q = cc
turned_trans true true true a b c p q =
    back a c ∙ trans c b a (sym (back b c) ∙ q) (sym (back a b) ∙ p)

turned_congr : (s t u : Bool) (a b c : Seen) → turned_order s t a b ≡ Equal
    → turned_order s u a c ≡ turned_order t u b c
turned_congr false false false a b c p = congr a b c p
turned_congr false false true a b c p = refl
turned_congr false true u a b c p = cc
turned_congr true false u a b c p = cc
turned_congr true true false a b c p = refl
turned_congr true true true a b c p =
    ap ordering_reverse (sym (congr b a c (sym (back a b) ∙ p)))

pub placed_total : IsTotalOrder placed_order
placed_total = record {
  antisymm = λ a b. turned_antisymm a.greatest_first b.greatest_first a.seen b.seen;
  trans = λ a b c p q. turned_trans a.greatest_first b.greatest_first c.greatest_first
      a.seen b.seen c.seen p q;
  congr = λ a b c p. turned_congr a.greatest_first b.greatest_first c.greatest_first
      a.seen b.seen c.seen p;
}

pub placed_equiv : IsEquivalence (eq_by_cmp placed_order)
placed_equiv = eq_by_cmp_equiv placed_total

pub placed_per : IsPartialEquivalence (eq_by_cmp placed_order)
placed_per = partial_equiv_from_equiv placed_equiv

pub placed_partial : IsPartialOrder (eq_by_cmp placed_order) (λ a b. Some (placed_order a b))
placed_partial = partial_order_from_agreeing_total placed_order placed_total (λ a b. refl)
    (λ a b. refl)
