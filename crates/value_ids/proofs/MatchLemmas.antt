-- The ids of the values that satisfy a test, by cuts.
use Rattle.std.proofs.Common.{◌≡◌, ◌∙◌, ◌<◌, ◌≤◌, ◌+◌, ℕ, Bool, true, false, not, ◌&&◌, ◌||◌, List, [], ◌∷◌, ◌++◌, length, take, drop, map, get_or, nat_eq, nat_le, nat_lt, refl, sym, ap, subst, arith, inl, inr, eq-eqb, ◌⊎◌, Result, Ok, Err, IfOk, cond}
use Rattle.std.proofs.lemmas.Bool.{cases_lt, cases_order, eqb-true, false≢true, le-leb, le-ltb, lt-leb, lt-ltb, ne_eqb}
use Rattle.std.proofs.lemmas.List.{drop_more, take_all}
use Rattle.std.proofs.lemmas.List.Folds.{list_any_more}
use Rattle.std.proofs.lemmas.Map.Keys.{Less-from_sorted, below_from_sorted, sorted_tail}
use Rattle.std.proofs.lemmas.Option.{slice_get_cases, slice_get_past, slice_get_read}
use Rattle.std.specs.List.{AllByRecursion, HoldsAt}
use Rattle.std.specs.Cmp.{nat_cmp_is}
use Rattle.std.specs.List.Sorted.{IsStrictlySortedBy}
use Rattle.std.specs.Ordering.{is_eq, is_ne, is_lt, is_le, is_gt, is_ge, nat_cmp, ordering_reverse}
use Rattle.std.specs.declared.cmp.Ordering.{Ordering}
use Rattle.std.specs.declared.cmp.Ordering.TheVariants as order
use Rattle.values.specs.declared.value.Value.{Value}
use Rattle.values.specs.declared.test.Test.{Test}
use Rattle.values.specs.declared.test.Test.TheOpen.{Test-F}
use Rattle.values.specs.declared.test.Test.TheFolds.{fold-roll-Test}
use Rattle.values.specs.declared.test.Test.TheVariants.{All, Any, rolls-All, rolls-Any}
use Rattle.values.specs.Order.{value_order, value_eq}
use Rattle.values.specs.Order.Laws.{value_order-total, value_eq-ties}
use Rattle.values.proofs.Bounds.{same_value}
use Rattle.values.specs.Tests.{all_true, any_true, holds, holds_step, is_at_most, is_between, is_member, negated_if}
use Rattle.value_ids.specs.Dictionary.{Ascends}
use Rattle.value_ids.specs.Ids.{AreThose, Cuts, Picks, has_id, holds_at, is_in_both, is_in_either, is_outside, is_within, matching, matching_from, negated_ids, IsIdSet}
use Rattle.value_ids.proofs.Ascending.{none_ascends}
use Rattle.value_ids.proofs.IdLemmas.{each_matching}
use Rattle.value_ids.proofs.MaskLemmas.{has_pushed}
use Rattle.value_ids.proofs.SetLemmas.{either_past, outside_past}

-- ---- what a search by halving finds cuts the values

pub cut_found : (values : List Value) (bound : Value) (i : ℕ) → Ascends values → i < length values → HoldsAt (λ y. value_order y bound ≡ order.Equal) values i → Cuts values bound i (i + 1)
cut_found values bound i up within equal =
    let is : (d : Value) → get_or values i d ≡ bound = (λ d. same_value (get_or values i d) bound (value_eq-ties (get_or values i d) bound ∙ ap is_eq (equal d))) in
    record {
      order = omega arith;
      once = omega arith;
      within = omega (arith, within);
      less = (λ id d lt. subst (λ v. value_order (get_or values id d) v ≡ order.Less) (is d) (Less-from_sorted value_order values id i d up lt within));
      equal = (λ id d le lt. let same : id ≡ i = omega (arith, le, lt) in subst (λ k. value_order (get_or values k d) bound ≡ order.Equal) (sym same) (equal d));
      greater = (λ id d le lt.
          value_order-total.antisymm (get_or values id d) bound ∙ ap ordering_reverse (subst (λ v. value_order v (get_or values id d) ≡ order.Less) (is d) (Less-from_sorted value_order values i id d up (omega (arith, le)) lt)));
    }

-- ---- one value

-- how a value stands to a bound, by its place
pub record Placed (bound : Value) (from to id : ℕ) (value : Value) : Type 0 where
  pub less : id < from → value_order value bound ≡ order.Less
  pub equal : from ≤ id → id < to → value_order value bound ≡ order.Equal
  pub greater : to ≤ id → value_order value bound ≡ order.Greater

pub placed : (values : List Value) (bound : Value) (from to id : ℕ) (value : Value) → Cuts values bound from to → id < length values → get_or values id value ≡ value → Placed bound from to id value
placed values bound from to id value cut within is = record {
  less = (λ lt. subst (λ v. value_order v bound ≡ order.Less) is (cut.less id value lt));
  equal = (λ le lt. subst (λ v. value_order v bound ≡ order.Equal) is (cut.equal id value le lt));
  greater = (λ le. subst (λ v. value_order v bound ≡ order.Greater) is (cut.greater id value le within));
}

and_none : (b : Bool) → b && false ≡ false
and_none true = refl
and_none false = refl

-- an id is within a run just where that holds
within_is : (from to id : ℕ) (t : Bool) → (from ≤ id → id < to → t ≡ true) → ((id < from) ⊎ (to ≤ id) → t ≡ false) → is_within from to id ≡ t
within_is from to id t inside outside =
    elim (cases_lt id from) [
      | inl before ↦ ap (λ b. b && nat_lt id to) (lt-leb from id before) ∙ sym (outside (inl before))
      | inr le ↦
          elim (cases_lt id to) [
            | inl lt ↦ (λ i. le-leb from id le i && lt-ltb id to lt i) ∙ sym (inside le lt)
            | inr past ↦ ap (λ b. nat_le from id && b) (le-ltb id to past) ∙ and_none (nat_le from id) ∙ sym (outside (inr past))
          ]
    ]

-- ids that are those of a test at each place
pub picked : (test : Value → Bool) (values : List Value) (ids : List ℕ) (is : ℕ → Bool) → ((id : ℕ) (value : Value) → id < length values → get_or values id value ≡ value → is id ≡ test value)
    → ((id : ℕ) → length values ≤ id → is id ≡ false) → AreThose is ids → Picks test values ids
picked test values ids is inside past those id =
    elim (slice_get_cases values id).1 [
      | inl h ↦ those id ∙ inside id h.0 h.1 h.3 ∙ ap (holds_at test) (sym h.2)
      | inr h ↦ those id ∙ past id h.0 ∙ ap (holds_at test) (sym h.1)
    ]

past_run : (from to n id : ℕ) → to ≤ n → n ≤ id → is_within from to id ≡ false
past_run from to n id le past = ap (λ b. nat_le from id && b) (le-ltb id to (omega (arith, le, past))) ∙ and_none (nat_le from id)

module _ (values : List Value) (bound : Value) (from to : ℕ) (cut : Cuts values bound from to) where
  run_picks : (test : Ordering → Bool) (a b : ℕ) (ids : List ℕ) → b ≤ length values
      → ((id : ℕ) (value : Value) → id < length values → Placed bound from to id value → is_within a b id ≡ test (value_order value bound)) → AreThose (is_within a b) ids
      → Picks (λ value. test (value_order value bound)) values ids
  run_picks test a b ids le each those =
      picked (λ value. test (value_order value bound)) values ids (is_within a b) (λ id value within is. each id value within (placed values bound from to id value cut within is)) (λ id past. past_run a b (length values) id le past)
      those

  pub equal_run : (ids : List ℕ) → AreThose (is_within from to) ids → Picks (λ value. is_eq (value_order value bound)) values ids
  equal_run ids =
      run_picks is_eq from to ids cut.within (λ id value within p.
      within_is from to id (is_eq (value_order value bound)) (λ x y. ap is_eq (p.equal x y)) (λ s.
      elim s [
        | inl x ↦ ap is_eq (p.less x)
        | inr y ↦ ap is_eq (p.greater y)
      ]))

  pub less_run : (ids : List ℕ) → AreThose (is_within 0 from) ids → Picks (λ value. is_lt (value_order value bound)) values ids
  less_run ids =
      run_picks is_lt 0 from ids (omega (arith, cut.order, cut.within)) (λ id value within p.
      within_is 0 from id (is_lt (value_order value bound)) (λ x y. ap is_lt (p.less y)) (λ s.
      elim s [
        | inl x ↦ absurd (omega (arith, x))
        | inr x ↦
            elim (cases_lt id to) [
              | inl y ↦ ap is_lt (p.equal x y)
              | inr y ↦ ap is_lt (p.greater y)
            ]
      ]))

  pub at_most_run : (ids : List ℕ) → AreThose (is_within 0 to) ids → Picks (λ value. is_le (value_order value bound)) values ids
  at_most_run ids =
      run_picks is_le 0 to ids cut.within (λ id value within p.
      within_is 0 to id (is_le (value_order value bound)) (λ x y.
      elim (cases_lt id from) [
        | inl z ↦ ap is_le (p.less z)
        | inr z ↦ ap is_le (p.equal z y)
      ]) (λ s.
      elim s [
        | inl x ↦ absurd (omega (arith, x))
        | inr x ↦ ap is_le (p.greater x)
      ]))

  pub more_run : (ids : List ℕ) → AreThose (is_within to (length values)) ids → Picks (λ value. is_gt (value_order value bound)) values ids
  more_run ids =
      run_picks is_gt to (length values) ids (omega arith) (λ id value within p.
      within_is to (length values) id (is_gt (value_order value bound)) (λ x y. ap is_gt (p.greater x)) (λ s.
      elim s [
        | inl x ↦
            elim (cases_lt id from) [
              | inl z ↦ ap is_gt (p.less z)
              | inr z ↦ ap is_gt (p.equal z x)
            ]
        | inr x ↦ absurd (omega (arith, x, within))
      ]))

  pub at_least_run : (ids : List ℕ) → AreThose (is_within from (length values)) ids → Picks (λ value. is_ge (value_order value bound)) values ids
  at_least_run ids =
      run_picks is_ge from (length values) ids (omega arith) (λ id value within p.
      within_is from (length values) id (is_ge (value_order value bound)) (λ x y.
      elim (cases_lt id to) [
        | inl z ↦ ap is_ge (p.equal x z)
        | inr z ↦ ap is_ge (p.greater z)
      ]) (λ s.
      elim s [
        | inl x ↦ ap is_ge (p.less x)
        | inr x ↦ absurd (omega (arith, x, within))
      ]))

-- ---- the others

pub negated_picks : (negated : Bool) (test : Value → Bool) (values : List Value) (ids new : List ℕ) → Picks test values ids → AreThose (negated_ids negated (length values) ids) new → Picks (λ value. negated_if negated (test value)) values new
negated_picks false test values ids new picks those = (λ id. those id ∙ picks id)
negated_picks true test values ids new picks those =
    picked (λ value. not (test value)) values new (is_outside (length values) ids)
    (λ id value within is.
    (λ i. lt-ltb id (length values) within i && not (picks id i)) ∙ ap (λ o. not (holds_at test o)) (slice_get_read values (length values) id value refl within (sym is)))
    (λ id past. outside_past (length values) id ids past) those

not_eq : (o : Ordering) → not (is_eq o) ≡ is_ne o
not_eq order.Less = refl
not_eq order.Equal = refl
not_eq order.Greater = refl

pub unequal_run : (values : List Value) (bound : Value) (from to : ℕ) (ids new : List ℕ) → Cuts values bound from to → AreThose (is_within from to) ids → AreThose (is_outside (length values) ids) new → Picks (λ value. is_ne (value_order value bound)) values new
unequal_run values bound from to ids new cut inner those =
    subst (λ f. Picks f values new) (λ i value. not_eq (value_order value bound) i) (negated_picks true (λ value. is_eq (value_order value bound)) values ids new (equal_run values bound from to cut ids inner) those)

-- ---- between two bounds

at_most_back : (low value : Value) (o : Ordering) → value_order value low ≡ o → is_at_most low value ≡ is_le (ordering_reverse o)
at_most_back low value o is = ap is_le (value_order-total.antisymm low value ∙ ap ordering_reverse is)

pub between_run : (values : List Value) (low high : Value) (from to from' to' : ℕ) (ids : List ℕ) → Cuts values low from to → Cuts values high from' to' → AreThose (is_within from to') ids → Picks (λ value. is_between low value high) values ids
between_run values low high from to from' to' ids below above =
    picked (λ value. is_between low value high) values ids (is_within from to')
    (λ id value within is.
    let p : Placed low from to id value = placed values low from to id value below within is in
    let q : Placed high from' to' id value = placed values high from' to' id value above within is in
    within_is from to' id (is_between low value high)
    (λ x y. (λ i.
    (elim (cases_lt id to) as (λ _. is_at_most low value ≡ true) [
      | inl z ↦ at_most_back low value order.Equal (p.equal x z)
      | inr z ↦ at_most_back low value order.Greater (p.greater z)
    ]) i
    && (elim (cases_lt id from') as (λ _. is_at_most value high ≡ true) [
      | inl z ↦ ap is_le (q.less z)
      | inr z ↦ ap is_le (q.equal z y)
    ]) i))
    (λ s.
    elim s [
      | inl x ↦ ap (λ b. b && is_at_most value high) (at_most_back low value order.Less (p.less x))
      | inr x ↦ ap (λ b. is_at_most low value && b) (ap is_le (q.greater x)) ∙ and_none (is_at_most low value)
    ]))
    (λ id past. past_run from to' (length values) id above.within past)

-- ---- members

is_bound : (bound value : Value) (from to id : ℕ) → Placed bound from to id value → to ≤ from + 1 → from < to → nat_eq id from ≡ value_eq value bound
is_bound bound value from to id p once some =
    elim (cases_lt id from) [
      | inl lt ↦ ne_eqb id from (λ e. omega (arith, lt, e)) ∙ sym (value_eq-ties value bound ∙ ap is_eq (p.less lt))
      | inr le ↦
          elim (cases_lt id to) [
            | inl lt ↦ eq-eqb id from (omega (arith, le, lt, once)) ∙ sym (value_eq-ties value bound ∙ ap is_eq (p.equal le lt))
            | inr past ↦ ne_eqb id from (λ e. omega (arith, past, e, some)) ∙ sym (value_eq-ties value bound ∙ ap is_eq (p.greater past))
          ]
    ]

no_bound : (bound value : Value) (from to id : ℕ) → Placed bound from to id value → to ≤ from → value_eq value bound ≡ false
no_bound bound value from to id p none =
    elim (cases_lt id from) [
      | inl lt ↦ value_eq-ties value bound ∙ ap is_eq (p.less lt)
      | inr le ↦ value_eq-ties value bound ∙ ap is_eq (p.greater (omega (arith, le, none)))
    ]

or_turn : (a b : Bool) → a || b ≡ b || a
or_turn true true = refl
or_turn true false = refl
or_turn false true = refl
or_turn false false = refl

or_none : (a : Bool) → a || false ≡ a
or_none true = refl
or_none false = refl

-- the places of the first members
pub record PlacesUpTo (members values : List Value) (i : ℕ) (places : List ℕ) : Type 0 where
  pub picks : Picks (is_member (take i members)) values places

more_members : (members : List Value) (i : ℕ) (member value : Value) → i < length members → member ≡ get_or members i member → is_member (take (i + 1) members) value ≡ is_member (take i members) value || value_eq value member
more_members members i member value lt is = list_any_more (value_eq value) members i member lt ∙ ap (λ m. is_member (take i members) value || value_eq value m) (sym is)

pub place_there : (members values : List Value) (i from to : ℕ) (member : Value) (places new : List ℕ) → i < length members → member ≡ get_or members i member → Cuts values member from to → from < to
    → PlacesUpTo members values i places → new ≡ places ++ from ∷ [] → PlacesUpTo members values (i + 1) new
place_there members values i from to member places new lt is cut some p new_is = record {
  picks = picked (is_member (take (i + 1) members)) values new (λ id. nat_eq id from || has_id places id)
      (λ id value within at.
      (λ k. is_bound member value from to id (placed values member from to id value cut within at) cut.once some k || p.picks id k)
      ∙ ap (λ o. value_eq value member || holds_at (is_member (take i members)) o) (slice_get_read values (length values) id value refl within (sym at))
      ∙ or_turn (value_eq value member) (is_member (take i members) value) ∙ sym (more_members members i member value lt is))
      (λ id past. (λ k. ne_eqb id from (λ e. let w = cut.within in omega (arith, past, e, some, w)) k || p.picks id k) ∙ ap (holds_at (is_member (take i members))) (slice_get_past values id past))
      (λ id. ap (λ xs. has_id xs id) new_is ∙ has_pushed places from id);
}

pub place_absent : (members values : List Value) (i from to : ℕ) (member : Value) (places : List ℕ) → i < length members → member ≡ get_or members i member → Cuts values member from to → to ≤ from
    → PlacesUpTo members values i places → PlacesUpTo members values (i + 1) places
place_absent members values i from to member places lt is cut none p = record {
  picks = picked (is_member (take (i + 1) members)) values places (has_id places)
      (λ id value within at.
      p.picks id ∙ ap (holds_at (is_member (take i members))) (slice_get_read values (length values) id value refl within (sym at))
      ∙ sym (or_none (is_member (take i members) value))
      ∙ ap (λ b. is_member (take i members) value || b) (sym (no_bound member value from to id (placed values member from to id value cut within at) none)) ∙ sym (more_members members i member value lt is))
      (λ id past. p.picks id ∙ ap (holds_at (is_member (take i members))) (slice_get_past values id past))
      (λ id. refl);
}

pub no_places : (members values : List Value) (places : List ℕ) → places ≡ [] → PlacesUpTo members values 0 places
no_places members values places none = record {
  picks = picked (is_member []) values places (has_id places) (λ id value within at. ap (λ xs. has_id xs id) none) (λ id past. ap (λ xs. has_id xs id) none) (λ id. refl);
}

pub all_places : (members values : List Value) (i : ℕ) (places : List ℕ) → length members ≤ i → PlacesUpTo members values i places → Picks (is_member members) values places
all_places members values i places past p = subst (λ ms. Picks (is_member ms) values places) (take_all i members past) p.picks

-- the set of the places
pub set_picks : (test : Value → Bool) (values : List Value) (places ids : List ℕ) → Picks test values places → AreThose (has_id places) ids → Picks test values ids
set_picks test values places ids picks those id = those id ∙ picks id

pub if_ok : {A E : Type 0} (r : Result A E) (P Q : A → Type 0) → ((x : A) → P x → Q x) → IfOk r P → IfOk r Q
if_ok (Ok x) P Q f p = f x p
if_ok (Err e) P Q f p = p

-- ---- ascending ids with the same members

above : (a x : ℕ) (xs : List ℕ) → IsStrictlySortedBy nat_cmp (x ∷ xs) → a < x → has_id (x ∷ xs) a ≡ false
above a x [] up lt = ap (λ b. b || false) (ne_eqb a x (λ e. omega (arith, lt, e)))
above a x (y ∷ ys) up lt =
    let less : x < y = below_from_sorted (x ∷ y ∷ ys) 0 1 0 up (omega arith) (omega arith) in
    (λ i. ne_eqb a x (λ e. omega (arith, lt, e)) i || above a y ys (sorted_tail nat_cmp x (y ∷ ys) up) (omega (arith, lt, less)) i)

own_id : (x : ℕ) (xs : List ℕ) → has_id (x ∷ xs) x ≡ true
own_id x xs = ap (λ b. b || has_id xs x) (eq-eqb x x refl)

not_following : (x : ℕ) (xs : List ℕ) → IsStrictlySortedBy nat_cmp (x ∷ xs) → has_id xs x ≡ false
not_following x [] up = refl
not_following x (y ∷ ys) up = above x y ys (sorted_tail nat_cmp x (y ∷ ys) up) (below_from_sorted (x ∷ y ∷ ys) 0 1 0 up (omega arith) (omega arith))

same_heads : (x y : ℕ) (xs ys : List ℕ) → IsStrictlySortedBy nat_cmp (x ∷ xs) → IsStrictlySortedBy nat_cmp (y ∷ ys) → ((q : ℕ) → has_id (x ∷ xs) q ≡ has_id (y ∷ ys) q) → x ≡ y
same_heads x y xs ys up down same =
    elim (cases_order x y) [
      | inl e ↦ e
      | inr (inl lt) ↦ absurd (false≢true (sym (above x y ys down lt) ∙ sym (same x) ∙ own_id x xs))
      | inr (inr gt) ↦ absurd (false≢true (sym (above y x xs up gt) ∙ same y ∙ own_id y ys))
    ]

same_tail_at : (x q : ℕ) (xs ys : List ℕ) (t : Bool) → nat_eq q x ≡ t → has_id xs x ≡ false → has_id ys x ≡ false → t || has_id xs q ≡ t || has_id ys q → has_id xs q ≡ has_id ys q
same_tail_at x q xs ys true e none none' same = ap (has_id xs) (eqb-true q x e) ∙ none ∙ sym none' ∙ ap (has_id ys) (sym (eqb-true q x e))
same_tail_at x q xs ys false e none none' same = same

pub same_ids : (xs ys : List ℕ) → IsStrictlySortedBy nat_cmp xs → IsStrictlySortedBy nat_cmp ys → ((q : ℕ) → has_id xs q ≡ has_id ys q) → xs ≡ ys
same_ids [] [] up down same = refl
same_ids [] (y ∷ ys) up down same = absurd (false≢true (same y ∙ own_id y ys))
same_ids (x ∷ xs) [] up down same = absurd (false≢true (sym (same x) ∙ own_id x xs))
same_ids (x ∷ xs) (y ∷ ys) up down same =
    let e : x ≡ y = same_heads x y xs ys up down same in
    let none' : has_id ys x ≡ false = ap (has_id ys) e ∙ not_following y ys down in
    (λ i. e i ∷ same_ids xs ys (sorted_tail nat_cmp x xs up) (sorted_tail nat_cmp y ys down)
    (λ q. same_tail_at x q xs ys (nat_eq q x) refl (not_following x xs up) none' (same q ∙ ap (λ z. nat_eq q z || has_id ys q) (sym e))) i)

-- ---- the ids that match, ascending

from_on : (least : ℕ) (first : ℕ) (test : Test) (values : List Value) → least < first → AllByRecursion (λ id. nat_cmp least id ≡ order.Less) (matching_from first test values)
from_on least first test [] lt = tt
from_on least first test (v ∷ vs) lt =
    elim (holds v test) as (λ b. AllByRecursion (λ id. nat_cmp least id ≡ order.Less) (cond b (first ∷ matching_from (first + 1) test vs) (matching_from (first + 1) test vs))) [
      | true ↦ (sym (nat_cmp_is least first order.Less lt), from_on least (first + 1) test vs (omega (arith, lt)))
      | false ↦ from_on least (first + 1) test vs (omega (arith, lt))
    ]

ids_cons : (x : ℕ) (xs : List ℕ) → AllByRecursion (λ id. nat_cmp x id ≡ order.Less) xs → IsStrictlySortedBy nat_cmp xs → IsStrictlySortedBy nat_cmp (x ∷ xs)
unfolding IsStrictlySortedBy
ids_cons x xs above' up = (above', up)

matching_up : (first : ℕ) (test : Test) (values : List Value) → IsStrictlySortedBy nat_cmp (matching_from first test values)
matching_up first test [] = none_ascends nat_cmp
matching_up first test (v ∷ vs) =
    elim (holds v test) as (λ b. IsStrictlySortedBy nat_cmp (cond b (first ∷ matching_from (first + 1) test vs) (matching_from (first + 1) test vs))) [
      | true ↦ ids_cons first (matching_from (first + 1) test vs) (from_on first (first + 1) test vs (omega arith)) (matching_up (first + 1) test vs)
      | false ↦ matching_up (first + 1) test vs
    ]

-- ids of a set that are those of the values that satisfy the test
pub ids_so : (test : Test) (values : List Value) (ids : List ℕ) → IsIdSet ids → Picks (λ value. holds value test) values ids → ids ≡ matching test values
ids_so test values ids set picks =
    same_ids ids (matching test values) set.ascends (matching_up 0 test values) (λ q. picks q ∙ sym (each_matching values test (matching test values) refl q))

-- ---- all of some tests, and any of them

-- the ids of the values that satisfy the tests so far; with those that are left, the whole test
pub record AllSoFar (test : Test) (values : List Value) (left : List Test) (ids : List ℕ) : Type 0 where
  pub each : (id : ℕ) (value : Value) → id < length values → get_or values id value ≡ value → holds value test ≡ has_id ids id && all_true (map (holds value) left)
  pub past : (id : ℕ) → length values ≤ id → has_id ids id ≡ false

pub record AnySoFar (test : Test) (values : List Value) (left : List Test) (ids : List ℕ) : Type 0 where
  pub each : (id : ℕ) (value : Value) → id < length values → get_or values id value ≡ value → holds value test ≡ has_id ids id || any_true (map (holds value) left)
  pub past : (id : ℕ) → length values ≤ id → has_id ids id ≡ false

pub all_begin : (test : Test) (values : List Value) (tests : List Test) (ids : List ℕ) → ((value : Value) → holds value test ≡ all_true (map (holds value) tests)) → AreThose (is_within 0 (length values)) ids → AllSoFar test values tests ids
all_begin test values tests ids is those = record {
  each = (λ id value within at. is value ∙ ap (λ b. b && all_true (map (holds value) tests)) (sym (those id ∙ within_is 0 (length values) id true (λ x y. refl) (λ s.
      elim s [
        | inl x ↦ absurd (omega (arith, x))
        | inr x ↦ absurd (omega (arith, x, within))
      ]))));
  past = (λ id le. those id ∙ past_run 0 (length values) (length values) id (omega arith) le);
}

pub any_begin : (test : Test) (values : List Value) (tests : List Test) (ids : List ℕ) → ((value : Value) → holds value test ≡ any_true (map (holds value) tests)) → ids ≡ [] → AnySoFar test values tests ids
any_begin test values tests ids is none = record {
  each = (λ id value within at. is value ∙ ap (λ xs. has_id xs id || any_true (map (holds value) tests)) (sym none));
  past = (λ id le. ap (λ xs. has_id xs id) none);
}

and_shift : (a b c : Bool) → a && (b && c) ≡ (a && b) && c
and_shift true b c = refl
and_shift false b c = refl

or_shift : (a b c : Bool) → a || (b || c) ≡ (a || b) || c
or_shift true b c = refl
or_shift false b c = refl

inner_is : (inner : Test) (values : List Value) (ids : List ℕ) (id : ℕ) (value : Value) → id < length values → get_or values id value ≡ value → Picks (λ v. holds v inner) values ids → has_id ids id ≡ holds value inner
inner_is inner values ids id value within at picks = picks id ∙ ap (holds_at (λ v. holds v inner)) (slice_get_read values (length values) id value refl within (sym at))

pub all_more : (test inner : Test) (values : List Value) (left rest : List Test) (ids found new : List ℕ) → left ≡ inner ∷ rest → AllSoFar test values left ids → Picks (λ v. holds v inner) values found → AreThose (is_in_both ids found) new → AllSoFar test values rest new
all_more test inner values left rest ids found new is so picks those = record {
  each = (λ id value within at.
      so.each id value within at ∙ ap (λ ts. has_id ids id && all_true (map (holds value) ts)) is
      ∙ and_shift (has_id ids id) (holds value inner) (all_true (map (holds value) rest))
      ∙ ap (λ b. (has_id ids id && b) && all_true (map (holds value) rest)) (sym (inner_is inner values found id value within at picks))
      ∙ ap (λ b. b && all_true (map (holds value) rest)) (sym (those id)));
  past = (λ id le. those id ∙ ap (λ b. b && has_id found id) (so.past id le));
}

pub any_more : (test inner : Test) (values : List Value) (left rest : List Test) (ids found new : List ℕ) → left ≡ inner ∷ rest → AnySoFar test values left ids → Picks (λ v. holds v inner) values found
    → AreThose (is_in_either (length values) ids found) new → AnySoFar test values rest new
any_more test inner values left rest ids found new is so picks those = record {
  each = (λ id value within at.
      so.each id value within at ∙ ap (λ ts. has_id ids id || any_true (map (holds value) ts)) is
      ∙ or_shift (has_id ids id) (holds value inner) (any_true (map (holds value) rest))
      ∙ ap (λ b. (has_id ids id || b) || any_true (map (holds value) rest)) (sym (inner_is inner values found id value within at picks))
      ∙ ap (λ b. b || any_true (map (holds value) rest)) (sym (those id ∙ ap (λ c. c && (has_id ids id || has_id found id)) (lt-ltb id (length values) within))));
  past = (λ id le. those id ∙ either_past (length values) id ids found le);
}

and_true : (b : Bool) → b && true ≡ b
and_true true = refl
and_true false = refl

pub all_end : (test : Test) (values : List Value) (left : List Test) (ids : List ℕ) → left ≡ [] → AllSoFar test values left ids → Picks (λ v. holds v test) values ids
all_end test values left ids none so =
    picked (λ v. holds v test) values ids (has_id ids)
    (λ id value within at. sym (so.each id value within at ∙ ap (λ ts. has_id ids id && all_true (map (holds value) ts)) none ∙ and_true (has_id ids id))) so.past (λ id. refl)

pub any_end : (test : Test) (values : List Value) (left : List Test) (ids : List ℕ) → left ≡ [] → AnySoFar test values left ids → Picks (λ v. holds v test) values ids
any_end test values left ids none so =
    picked (λ v. holds v test) values ids (has_id ids)
    (λ id value within at. sym (so.each id value within at ∙ ap (λ ts. has_id ids id || any_true (map (holds value) ts)) none ∙ or_none (has_id ids id))) so.past (λ id. refl)

holds_all : (tests : List Test) (value : Value) → holds value (All tests) ≡ all_true (map (holds value) tests)
holds_all tests value = ap (holds value) (sym (rolls-All tests)) ∙ fold-roll-Test Bool (holds_step value) (Test-F.All tests)

holds_any : (tests : List Test) (value : Value) → holds value (Any tests) ≡ any_true (map (holds value) tests)
holds_any tests value = ap (holds value) (sym (rolls-Any tests)) ∙ fold-roll-Test Bool (holds_step value) (Test-F.Any tests)

pub all_at_first : (test : Test) (values : List Value) (tests slice : List Test) (ids : List ℕ) → test ≡ All tests → slice ≡ tests → AreThose (is_within 0 (length values)) ids → AllSoFar test values slice ids
all_at_first test values tests slice ids is same those =
    all_begin test values slice ids (λ value. ap (holds value) is ∙ holds_all tests value ∙ ap (λ ts. all_true (map (holds value) ts)) (sym same)) those

pub any_at_first : (test : Test) (values : List Value) (tests slice : List Test) (ids : List ℕ) → test ≡ Any tests → slice ≡ tests → ids ≡ [] → AnySoFar test values slice ids
any_at_first test values tests slice ids is same none =
    any_begin test values slice ids (λ value. ap (holds value) is ∙ holds_any tests value ∙ ap (λ ts. any_true (map (holds value) ts)) (sym same)) none

pub next_test : (tests : List Test) (i : ℕ) (test : Test) → i < length tests → test ≡ get_or tests i test → drop i tests ≡ test ∷ drop (i + 1) tests
next_test tests i test lt is = drop_more tests i test lt ∙ ap (λ t. t ∷ drop (i + 1) tests) (sym is)
