-- What a search by halving finds among ascending values; one more id of an ascending list.
use Rattle.std.proofs.Common.{◌≡◌, ◌∙◌, ◌<◌, ◌≤◌, ℕ, false, List, [], ◌∷◌, ◌++◌, ◌-◌, length, get_or, Option, Some, None, refl, sym, ap, subst, arith, inl, inr}
use Rattle.std.proofs.lemmas.Bool.{cases_lt}
use Rattle.std.proofs.lemmas.Cmp.{nat_cmp_total}
use Rattle.std.proofs.lemmas.List.{length-append}
use Rattle.std.proofs.lemmas.List.Folds.{list_any_none}
use Rattle.std.proofs.lemmas.Option.{slice_get-get_or}
use Rattle.std.specs.Cmp.{nat_cmp_is}
use Rattle.std.specs.List.{HoldsAt, slice_get}
use Rattle.std.specs.List.Sorted.{IsStrictlySortedBy}
use Rattle.std.specs.Option.{IfSome}
use Rattle.std.specs.Ordering.{is_eq, nat_cmp, ordering_reverse}
use Rattle.std.specs.declared.cmp.Ordering.{Ordering}
use Rattle.std.specs.declared.cmp.Ordering.TheVariants as order
use Rattle.values.proofs.Bounds.{same_value}
use Rattle.values.specs.declared.value.Value.{Value}
use Rattle.values.specs.Order.{value_order, value_eq}
use Rattle.values.specs.Order.Laws.{value_order-total, value_eq-ties}
use Rattle.values.specs.Tests.{is_member}
use Rattle.value_ids.specs.Ids.{Cuts, IsAboveLast, IsIdSet}
use Rattle.value_ids.proofs.Ascending.{none_ascends, push_ascends}

-- ---- values

pub found : (values : List Value) (x : Value) (i : ℕ) → i < length values → HoldsAt (λ y. value_order y x ≡ order.Equal) values i → slice_get values i ≡ Some x
found values x i within equal =
    slice_get-get_or values i x within ∙ ap Some (same_value (get_or values i x) x (value_eq-ties (get_or values i x) x ∙ ap is_eq (equal x)))

differ : (x y : Value) → (o : Ordering) → value_order y x ≡ o → is_eq (ordering_reverse o) ≡ false → value_eq x y ≡ false
differ x y o e other = value_eq-ties x y ∙ ap is_eq (value_order-total.antisymm x y ∙ ap ordering_reverse e) ∙ other

-- a bound that cuts values apart is the one between, or none of them
pub cut_here : (values : List Value) (bound : Value) (from to : ℕ) → Cuts values bound from to → from < to → slice_get values from ≡ Some bound
cut_here values bound from to cut some = let within = cut.within in found values bound from (omega (arith, some, within)) (λ d. cut.equal from d (omega arith) some)

pub cut_absent : (values : List Value) (bound : Value) (from to : ℕ) → Cuts values bound from to → to ≤ from → is_member values bound ≡ false
cut_absent values bound from to cut none =
    list_any_none (value_eq bound) values (λ k d within.
    elim (cases_lt k from) [
      | inl lt ↦ differ bound (get_or values k d) order.Less (cut.less k d lt) refl
      | inr le ↦ differ bound (get_or values k d) order.Greater (cut.greater k d (omega (arith, le, none)) within) refl
    ])

-- ---- ids

less_above : (o : Option ℕ) (id : ℕ) → IfSome o (λ last. last < id) → IfSome o (λ last. nat_cmp last id ≡ order.Less)
less_above None id h = tt
less_above (Some last) id h = sym (nat_cmp_is last id order.Less h)

pub id_pushed : (ids : List ℕ) (id : ℕ) → IsStrictlySortedBy nat_cmp ids → IsAboveLast ids id → IsStrictlySortedBy nat_cmp (ids ++ id ∷ [])
id_pushed ids id up above = push_ascends nat_cmp_total ids id up (less_above (slice_get ids (length ids - 1)) id above)

pub id_kept : (kept told new : List ℕ) (id : ℕ) → kept ≡ told → IsIdSet kept → length kept < 4294967295 → IsAboveLast told id → new ≡ kept ++ id ∷ [] → IsIdSet new
id_kept kept told new id view stands room above is =
    subst IsIdSet (sym is) (record {
      ascends = id_pushed kept id stands.ascends (subst (λ xs. IsAboveLast xs id) (sym view) above);
      at_most = omega (arith, length-append kept (id ∷ []));
    })

pub no_ids : IsIdSet []
no_ids = record { ascends = none_ascends nat_cmp; at_most = omega arith }
