-- The groups of a table as a map: what a new group and a change to one make of them.
use Rattle.std.proofs.Common.{◌≡◌, ◌∙◌, ◌+◌, Bool, true, false, cond, List, [], ◌∷◌, ◌++◌, length, Option, Some, None, refl, sym, ap, subst, arith, is_some}
use Rattle.std.specs.Ordering.{eq_by_cmp, is_eq}
use Rattle.std.specs.Cmp.{IsTotalOrder, IsEquivalence}
use Rattle.std.specs.Cmp.Lexicographic.{lists_equiv, lists_total, lists_ties}
use Rattle.std.specs.FinMap as finite
use Rattle.std.specs.FinMap.{IsAntisymmetric, slice_cmp-IsAntisymmetric, find}
use Rattle.std.specs.List.{AllByRecursion, IsDistinct}
use Rattle.std.specs.Map.{keys_of, lookup, set_value}
use Rattle.std.proofs.lemmas.Map.Keys.{IsDistinct-head, IsDistinct-tail}
use Rattle.std.proofs.lemmas.Map.Views.{tells_apart}
use Rattle.values.specs.declared.value.Value.{Value}
use Rattle.values.specs.Order.{value_order}
use Rattle.values.specs.Order.Laws.{value_order-total, value_eq-ties, value_eq-equiv}
use Rattle.values.proofs.Bounds.{same_value}
use Rattle.agg_laws.specs.declared.states.AggState.{AggState}
use Rattle.group_table.specs.Groups.{Group, key_order}
use Rattle.group_table.specs.Kept.{key_eq}

pub key_total : IsTotalOrder key_order
key_total = lists_total value_order-total

pub key_equiv : IsEquivalence key_eq
key_equiv = lists_equiv value_eq-equiv

pub key_ties : (x y : List Value) → key_eq x y ≡ eq_by_cmp key_order x y
key_ties = lists_ties value_order value_eq-ties

-- keys that tie are one key
pub key_same : IsAntisymmetric key_order
key_same = slice_cmp-IsAntisymmetric (λ x y e. same_value x y (value_eq-ties x y ∙ ap is_eq e))

pub same_key : (x y : List Value) → key_eq x y ≡ true → x ≡ y
same_key x y e = tells_apart key_same x y (sym (key_ties x y) ∙ e)

pub lookup_find : (q : List Value) (es : List Group) → lookup (key_eq q) es ≡ find key_order q es
lookup_find q [] = refl
lookup_find q (e ∷ es) = λ i. cond (key_ties q e.0 i) (Some e.1) (lookup_find q es i)

-- what a key has is what its entry has
pub get_lookup : (es : List Group) (q : List Value) → finite.get (finite.from_entries {R = key_order} es) q ≡ lookup (key_eq q) es
get_lookup es q = finite.get-from_entries key_total es q ∙ sym (lookup_find q es)

turned : (k q : List Value) → key_eq k q ≡ eq_by_cmp key_order q k
turned k q = key_equiv.symm k q ∙ key_ties q k

-- entries in which one key has other states are the map with those put to it
pub inserted : (es fs : List Group) (k : List Value) (w : List AggState)
    → ((q : List Value) → lookup (key_eq q) fs ≡ cond (key_eq k q) (Some w) (lookup (key_eq q) es))
    → finite.from_entries {R = key_order} fs ≡ finite.insert (finite.from_entries {R = key_order} es) k w
inserted es fs k w h = finite.same_map key_total key_same _ _ (λ q. get_lookup fs q ∙ h q
    ∙ (λ i. cond (turned k q i) (Some w) (sym (get_lookup es q) i)) ∙ sym (finite.get-insert key_total (finite.from_entries {R = key_order} es) k w q))

pub absent : (k : List Value) (es : List Group) → AllByRecursion (λ y. key_eq k y ≡ false) (keys_of es) → lookup (key_eq k) es ≡ None
absent k [] h = refl
absent k (e ∷ es) h = ap (λ b. cond b (Some e.1) (lookup (key_eq k) es)) h.0 ∙ absent k es h.1

-- as many groups as entries
pub len_once : (es : List Group) → IsDistinct key_eq (keys_of es) → finite.len (finite.from_entries {R = key_order} es) ≡ length es
len_once [] d = finite.len-empty key_order (List AggState)
len_once (e ∷ es) d =
    let none = get_lookup es e.0 ∙ absent e.0 es (IsDistinct-head key_eq e.0 (keys_of es) d) in
    let rest = len_once es (IsDistinct-tail key_eq e.0 (keys_of es) d) in
    finite.len-insert key_total (finite.from_entries {R = key_order} es) e.0 e.1
    ∙ ap (λ (o : Option (List AggState)). cond (is_some o) (finite.len (finite.from_entries {R = key_order} es)) (finite.len (finite.from_entries {R = key_order} es) + 1)) none
    ∙ omega (arith, rest)

-- what holds of each entry holds once the states of one are others of which it holds
pub each_set : (P : Group → Type 0) (k : List Value) (w : List AggState) (es : List Group)
    → P (k, w) → AllByRecursion P es → AllByRecursion P (set_value (key_eq k) es w)
each_set P k w [] p h = tt
each_set P k w (e ∷ es) p h = by (key_eq k e.0) refl (each_set P k w es p h.1)
  where
    by : (b : Bool) → key_eq k e.0 ≡ b → AllByRecursion P (set_value (key_eq k) es w) → AllByRecursion P (cond b ((e.0, w) ∷ es) (e ∷ set_value (key_eq k) es w))
    by true t rest = (subst (λ (x : List Value). P (x, w)) (same_key k e.0 t) p, h.1)
    by false t rest = (h.0, rest)

pub each_push : (P : Group → Type 0) (e : Group) (es : List Group) → P e → AllByRecursion P es → AllByRecursion P (es ++ e ∷ [])
each_push P e [] p h = (p, tt)
each_push P e (x ∷ xs) p h = (h.0, each_push P e xs p h.1)

-- what is found is an entry's
pub each_found : (P : Group → Type 0) (k : List Value) (es : List Group) (own : List AggState)
    → lookup (key_eq k) es ≡ Some own → AllByRecursion P es → P (k, own)
each_found P k [] own e h = cc
each_found P k (x ∷ xs) own e h = by (key_eq k x.0) refl e (λ s. each_found P k xs own s h.1)
  where
    by : (b : Bool) → key_eq k x.0 ≡ b → cond b (Some x.1) (lookup (key_eq k) xs) ≡ Some own → (lookup (key_eq k) xs ≡ Some own → P (k, own)) → P (k, own)
    by true t s rest = let v : x.1 ≡ own = cc in subst P (λ i. (sym (same_key k x.0 t) i, v i)) h.0
    by false t s rest = rest s
