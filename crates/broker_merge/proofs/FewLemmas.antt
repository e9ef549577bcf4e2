-- Without group columns there is one group at most, and few groups are in order as they are.
use Rattle.std.proofs.Common.{◌≡◌, ◌∙◌, ◌&&◌, ℕ, zero, suc, ◌<◌, ◌≤◌, Bool, true, false, List, [], ◌∷◌, length, nat_lt, Option, Some, None, refl, rules, tests, subst, sym, ap, arith}
use Rattle.std.specs.List.{All, list_all, IsDistinct, AllByRecursion}
use Rattle.std.specs.Map.{keys_of}
use Rattle.std.proofs.lemmas.List.{length-map}
use Rattle.std.proofs.lemmas.List.Elements.{All-cons, All-nil}
use Rattle.std.proofs.lemmas.Map.Keys.{IsDistinct-head}
use Rattle.values.specs.declared.value.Value.{Value}
use Rattle.table_schema.specs.ValidQuery.{is_item, each_test, having_places, if_asked}
use Rattle.table_schema.specs.declared.query.Having.{Having}
use Rattle.table_schema.specs.declared.query.BoundQuery.{BoundQuery}
use Rattle.table_schema.specs.declared.query.Item.{Item}
use Rattle.table_schema.specs.declared.query.Item.TheVariants as item
use Rattle.table_schema.specs.declared.query.OrderKey.{OrderKey}
use Rattle.group_table.specs.Groups.{Group}
use Rattle.group_table.specs.Kept.{KeptGroups, IsGroup, IsTable, IsTableOf, key_eq}
use Rattle.broker_merge.specs.Rank.{IsItem}
use Rattle.broker_merge.specs.Order.{in_order}
use Rattle.broker_merge.specs.Having.{MayBeAsked}

no_value : (key : List Value) → length key ≡ 0 → key ≡ []
no_value [] e = refl
no_value (v ∷ vs) e = absurd (omega arith)

-- two keys of no value are one
one_key : (a b : Group) (gs : List Group) → length a.0 ≡ 0 → length b.0 ≡ 0 → IsDistinct key_eq (keys_of (a ∷ b ∷ gs)) → ⊥
one_key a b gs p q d =
    let apart : key_eq a.0 b.0 ≡ false = (IsDistinct-head key_eq a.0 (keys_of (b ∷ gs)) d).0 in
    let same : key_eq a.0 b.0 ≡ true = λ i. key_eq (no_value a.0 p i) (no_value b.0 q i) in
    cc

pub grouped : (t : KeptGroups) → IsTable t → 2 ≤ length t.groups → 0 < t.columns
grouped t table two = by t.columns t.groups refl table.each table.once two
  where
    by : (columns : ℕ) (gs : List Group) → columns ≡ t.columns → AllByRecursion (IsGroup t.columns t.kinds) gs
        → IsDistinct key_eq (keys_of gs) → 2 ≤ length gs → 0 < t.columns
    by (suc n) gs e each once h = omega arith
    by zero [] e each once h = absurd (omega arith)
    by zero (a ∷ []) e each once h = absurd (omega arith)
    by zero (a ∷ b ∷ gs) e each once h = absurd (one_key a b gs (each.0.key ∙ sym e) (each.1.0.key ∙ sym e) once)

pub few_in_order : (order : List OrderKey) (gs : List Group) → length gs < 2 → gs ≡ in_order order gs
few_in_order order [] h = refl
few_in_order order (g ∷ []) h = refl
few_in_order order (g ∷ h ∷ gs) lt = absurd (omega (arith, lt))

-- ---- what a query names is of its table

and_first : (a b : Bool) → (a && b) ≡ true → a ≡ true
and_first true b e = refl
and_first false b e = e

and_second : (a b : Bool) → (a && b) ≡ true → b ≡ true
and_second true b e = e
and_second false true e = refl
and_second false false e = e

below_so : (n m : ℕ) → nat_lt n m ≡ true → n < m
below_so n m e = search (rules, tests)

item_of_table : (q : BoundQuery) (t : KeptGroups) → IsTableOf q t → (i : Item) → is_item q i ≡ true → IsItem t i
item_of_table q t of (item.Group place) e = subst (λ n. place < n) (sym of.columns) (below_so place (length q.groups) e)
item_of_table q t of (item.Agg place) e = subst (λ n. place < n) (sym (ap length of.kinds ∙ length-map q.aggs (λ agg. agg.kind))) (below_so place (length q.aggs) e)

pub keys_of_table : (q : BoundQuery) (t : KeptGroups) → IsTableOf q t → (order : List OrderKey) → list_all (λ k. is_item q k.item) order ≡ true → All (λ k. IsItem t k.item) order
keys_of_table q t of [] e = All-nil (λ k. IsItem t k.item)
keys_of_table q t of (k ∷ ks) e =
    All-cons (λ k. IsItem t k.item) k ks (item_of_table q t of k.item (and_first (is_item q k.item) (list_all (λ k. is_item q k.item) ks) e))
    (keys_of_table q t of ks (and_second (is_item q k.item) (list_all (λ k. is_item q k.item) ks) e))

-- and what it asks of groups
pub asked_of_table : (q : BoundQuery) (t : KeptGroups) → IsTableOf q t → (o : Option Having) → if_asked (λ having. nat_lt 0 (length q.groups)) o ≡ true
    → if_asked (having_places q.groups q.aggs) o ≡ true → MayBeAsked t o
asked_of_table q t of None some places = tt
asked_of_table q t of (Some h) some places = record {
  grouped = subst (λ n. 0 < n) (sym of.columns) (below_so 0 (length q.groups) some);
  tests = (λ i. each_test (λ place value. nat_lt place (of.columns i)) (λ place. nat_lt place ((ap length of.kinds ∙ length-map q.aggs (λ agg. agg.kind)) i)) h) ∙ places;
}
