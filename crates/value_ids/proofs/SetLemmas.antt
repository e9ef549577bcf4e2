-- Sets of ids that a walk collects.
use Rattle.std.proofs.Common.{◌≡◌, ◌∙◌, ◌<◌, ◌≤◌, ◌+◌, ◌-◌, ℕ, Bool, true, false, not, ◌&&◌, ◌||◌, List, [], ◌∷◌, ◌++◌, length, take, get_or, nat_eq, nat_le, nat_lt, refl, sym, ap, subst, arith, inl, inr, eq-eqb}
use Rattle.std.proofs.lemmas.Bool.{both_ways, cases_lt, eqb-true, eqb-false, le-leb, le-ltb, lt-leb, lt-ltb, ne_eqb, and_parts}
use Rattle.std.proofs.lemmas.List.{get_or_default, get_or-take, length-take, take_all}
use Rattle.std.proofs.lemmas.List.Folds.{list_any_at, list_any_more}
use Rattle.std.proofs.lemmas.Map.Keys.{below_from_sorted}
use Rattle.std.proofs.lemmas.Map.Views.{Contains-from_any}
use Rattle.std.proofs.lemmas.Option.{slice_get_cases}
use Rattle.std.specs.List.Sorted.{IsPermutation, IsSorted, IsStrictlySortedBy}
use Rattle.std.proofs.lemmas.List.Sorted.{IsNonDecreasingBy-from_sort, list_any-IsPermutation}
use Rattle.std.specs.Option.{IfSome}
use Rattle.std.specs.Ordering.{nat_cmp}
use Rattle.value_ids.specs.Ids.{AreThose, has_id, is_in_both, is_in_either, is_outside, is_within, IsAboveLast}
use Rattle.value_ids.proofs.MaskLemmas.{has_pushed}

-- ids that are all less than one
pub all_less : (ids : List ℕ) (id : ℕ) → ((q : ℕ) → has_id ids q ≡ true → q < id) → IsAboveLast ids id
all_less ids id less =
    elim (slice_get_cases ids (length ids - 1)).1 [
      | inl h ↦ subst (λ o. IfSome o (λ last. last < id)) (sym h.2) (less h.0 (list_any_at (nat_eq h.0) ids (length ids - 1) h.0 h.1 (eq-eqb h.0 (get_or ids (length ids - 1) h.0) (sym h.3))))
      | inr h ↦ subst (λ o. IfSome o (λ last. last < id)) (sym h.1) tt
    ]

-- ---- a walk over ids from the least on

-- of the ids before one, those of which the test holds
pub record Passed (test : ℕ → Bool) (i : ℕ) (ids : List ℕ) : Type 0 where
  pub before : (q : ℕ) → q < i → has_id ids q ≡ test q
  pub following : (q : ℕ) → i ≤ q → has_id ids q ≡ false

pub pass_none : (test : ℕ → Bool) (i : ℕ) (ids : List ℕ) → ids ≡ [] → ((q : ℕ) → q < i → test q ≡ false) → Passed test i ids
pass_none test i ids none before = record {
  before = (λ q lt. ap (λ xs. has_id xs q) none ∙ sym (before q lt));
  following = (λ q le. ap (λ xs. has_id xs q) none);
}

yes_before : (test : ℕ → Bool) (i q : ℕ) (ids : List ℕ) (t : Bool) → nat_eq q i ≡ t → test i ≡ true → Passed test i ids → q < i + 1 → t || has_id ids q ≡ test q
yes_before test i q ids true e holds p lt = sym (ap test (eqb-true q i e) ∙ holds)
yes_before test i q ids false e holds p lt = p.before q (let apart = eqb-false q i e in let below : q < i = omega (arith, apart, lt) in below)

pub pass_yes : (test : ℕ → Bool) (i : ℕ) (ids new : List ℕ) → test i ≡ true → Passed test i ids → new ≡ ids ++ i ∷ [] → Passed test (i + 1) new
pass_yes test i ids new holds p is = record {
  before = (λ q lt. ap (λ xs. has_id xs q) is ∙ has_pushed ids i q ∙ yes_before test i q ids (nat_eq q i) refl holds p lt);
  following = (λ q le. ap (λ xs. has_id xs q) is ∙ has_pushed ids i q ∙ ap (λ b. b || has_id ids q) (ne_eqb q i (λ e. omega (arith, e, le))) ∙ p.following q (omega (arith, le)));
}

pub pass_no : (test : ℕ → Bool) (i : ℕ) (ids : List ℕ) → test i ≡ false → Passed test i ids → Passed test (i + 1) ids
pass_no test i ids fails p = record {
  before = (λ q lt.
      elim (cases_lt q i) [
        | inl below ↦ p.before q below
        | inr le ↦ (let same : q ≡ i = omega (arith, lt, le) in p.following q le ∙ sym (ap test same ∙ fails))
      ]);
  following = (λ q le. p.following q (omega (arith, le)));
}

pub pass_above : (test : ℕ → Bool) (i : ℕ) (ids : List ℕ) → Passed test i ids → IsAboveLast ids i
pass_above test i ids p =
    all_less ids i (λ q there.
    elim (cases_lt q i) [
      | inl lt ↦ lt
      | inr le ↦ absurd (both_ways (has_id ids q) (p.following q le) there)
    ])

pub pass_end : (test : ℕ → Bool) (i : ℕ) (ids : List ℕ) → ((q : ℕ) → i ≤ q → test q ≡ false) → Passed test i ids → AreThose test ids
pass_end test i ids none p q =
    elim (cases_lt q i) [
      | inl lt ↦ p.before q lt
      | inr le ↦ p.following q le ∙ sym (none q le)
    ]

-- ---- a run

pub run_at : (from to id : ℕ) → from ≤ id → id < to → is_within from to id ≡ true
run_at from to id le lt = (λ i. le-leb from id le i && lt-ltb id to lt i)

pub run_before : (from to q : ℕ) → q < from → is_within from to q ≡ false
run_before from to q lt = ap (λ b. b && nat_lt q to) (lt-leb from q lt)

pub run_past : (from to q : ℕ) → to ≤ q → is_within from to q ≡ false
run_past from to q past = ap (λ b. nat_le from q && b) (le-ltb q to past) ∙ and_none (nat_le from q)
  where
    and_none : (b : Bool) → b && false ≡ false
    and_none true = refl
    and_none false = refl

-- ---- the ids of a set that are in another

-- of the first ids of a set, those that are in another
pub record SharedUpTo (a b : List ℕ) (i : ℕ) (ids : List ℕ) : Type 0 where
  pub each : (q : ℕ) → has_id ids q ≡ has_id (take i a) q && has_id b q

joined : (t m n : Bool) → (t ≡ true → n ≡ true) → t || (m && n) ≡ (m || t) && n
joined true true n h = sym (h refl)
joined true false n h = sym (h refl)
joined false true n h = refl
joined false false n h = refl

left_out : (t m n : Bool) → (t ≡ true → n ≡ false) → m && n ≡ (m || t) && n
left_out true true n h = refl
left_out true false n h = sym (h refl)
left_out false true n h = refl
left_out false false n h = refl

one_more : (a : List ℕ) (i x q : ℕ) → i < length a → x ≡ get_or a i 0 → has_id (take (i + 1) a) q ≡ has_id (take i a) q || nat_eq q x
one_more a i x q lt is = list_any_more (nat_eq q) a i 0 lt ∙ ap (λ y. has_id (take i a) q || nat_eq q y) (sym is)

pub share_yes : (a b ids new : List ℕ) (i x : ℕ) → i < length a → x ≡ get_or a i 0 → has_id b x ≡ true → SharedUpTo a b i ids → new ≡ ids ++ x ∷ [] → SharedUpTo a b (i + 1) new
share_yes a b ids new i x lt is there s new_is = record {
  each = (λ q. ap (λ xs. has_id xs q) new_is ∙ has_pushed ids x q ∙ ap (λ h. nat_eq q x || h) (s.each q)
      ∙ joined (nat_eq q x) (has_id (take i a) q) (has_id b q) (λ e. ap (has_id b) (eqb-true q x e) ∙ there) ∙ ap (λ m. m && has_id b q) (sym (one_more a i x q lt is)));
}

pub share_no : (a b ids : List ℕ) (i x : ℕ) → i < length a → x ≡ get_or a i 0 → has_id b x ≡ false → SharedUpTo a b i ids → SharedUpTo a b (i + 1) ids
share_no a b ids i x lt is absent s = record {
  each = (λ q. s.each q ∙ left_out (nat_eq q x) (has_id (take i a) q) (has_id b q) (λ e. ap (has_id b) (eqb-true q x e) ∙ absent) ∙ ap (λ m. m && has_id b q) (sym (one_more a i x q lt is)));
}

-- an id among the first of a list, at its place
earlier : (a : List ℕ) (i q d : ℕ) → has_id (take i a) q ≡ true → i ≤ length a → (k : ℕ) × (k < i) × (get_or a k d ≡ q)
earlier a i q d there le =
    let (k, within, is) = Contains-from_any eqb-true q (take i a) there in
    let lt : k < i = omega (arith, within, length-take i a) in
    (k, lt, get_or_default a k d q (omega (arith, lt, le)) ∙ sym (get_or-take i a k q lt) ∙ is)

pub share_above : (a b ids : List ℕ) (i x : ℕ) → IsStrictlySortedBy nat_cmp a → i < length a → x ≡ get_or a i 0 → SharedUpTo a b i ids → IsAboveLast ids x
share_above a b ids i x up lt is s =
    all_less ids x (λ q there.
    let (k, before, at) = earlier a i q 0 (and_parts (has_id (take i a) q) (has_id b q) (sym (s.each q) ∙ there)).0 (omega (arith, lt)) in
    let less : get_or a k 0 < get_or a i 0 = below_from_sorted a k i 0 up before lt in
    (let done : q < x = omega (arith, less, at, is) in done))

pub share_end : (a b ids : List ℕ) (i : ℕ) → length a ≤ i → SharedUpTo a b i ids → AreThose (is_in_both a b) ids
share_end a b ids i past s q = s.each q ∙ ap (λ xs. has_id xs q && has_id b q) (take_all i a past)

-- ---- the set of some ids

-- the first of the ids are in the set, and no others
pub record GathersUpTo (places : List ℕ) (i : ℕ) (ids : List ℕ) : Type 0 where
  pub each : (q : ℕ) → has_id ids q ≡ has_id (take i places) q

or_turned : (a b : Bool) → a || b ≡ b || a
or_turned true true = refl
or_turned true false = refl
or_turned false true = refl
or_turned false false = refl

or_there : (t m h : Bool) → h ≡ m → (t ≡ true → h ≡ true) → h ≡ m || t
or_there true m h is there = there refl ∙ sym (or_turned m true)
or_there false true h is there = is
or_there false false h is there = is

pub gather_yes : (places ids new : List ℕ) (i x : ℕ) → i < length places → x ≡ get_or places i 0 → GathersUpTo places i ids → new ≡ ids ++ x ∷ [] → GathersUpTo places (i + 1) new
gather_yes places ids new i x lt is g new_is = record {
  each = (λ q. ap (λ xs. has_id xs q) new_is ∙ has_pushed ids x q ∙ ap (λ h. nat_eq q x || h) (g.each q) ∙ or_turned (nat_eq q x) (has_id (take i places) q) ∙ sym (one_more places i x q lt is));
}

pub gather_no : (places ids : List ℕ) (i x : ℕ) → i < length places → x ≡ get_or places i 0 → has_id ids x ≡ true → GathersUpTo places i ids → GathersUpTo places (i + 1) ids
gather_no places ids i x lt is there g = record {
  each = (λ q. or_there (nat_eq q x) (has_id (take i places) q) (has_id ids q) (g.each q) (λ e. ap (has_id ids) (eqb-true q x e) ∙ there) ∙ sym (one_more places i x q lt is));
}

pub gather_above : (places ids : List ℕ) (i x : ℕ) → IsSorted nat_cmp places → i < length places → x ≡ get_or places i 0 → has_id ids x ≡ false → GathersUpTo places i ids → IsAboveLast ids x
gather_above places ids i x up lt is absent g =
    all_less ids x (λ q there.
    let (k, before, at) = earlier places i q 0 (sym (g.each q) ∙ there) (omega (arith, lt)) in
    let most : get_or places k 0 ≤ get_or places i 0 = IsNonDecreasingBy-from_sort (λ y. y) places up k i 0 (omega (arith, before)) lt in
    elim (cases_lt q x) [
      | inl less ↦ less
      | inr le ↦ absurd (let same : q ≡ x = omega (arith, most, at, is, le) in both_ways (has_id ids q) (ap (has_id ids) same ∙ absent) there)
    ])

pub gather_end : (given places ids : List ℕ) (i : ℕ) → IsPermutation given places → length places ≤ i → GathersUpTo places i ids → AreThose (has_id given) ids
gather_end given places ids i moved past g q = g.each q ∙ ap (λ xs. has_id xs q) (take_all i places past) ∙ sym (list_any-IsPermutation (nat_eq q) given places moved)

-- ---- below a count

pub outside_at : (count id : ℕ) (ids : List ℕ) (b : Bool) → id < count → has_id ids id ≡ b → is_outside count ids id ≡ not b
outside_at count id ids b lt is = (λ i. lt-ltb id count lt i && not (is i))

pub either_at : (count id : ℕ) (a b : List ℕ) (t : Bool) → id < count → t ≡ has_id a id || has_id b id → is_in_either count a b id ≡ t
either_at count id a b t lt is = ap (λ c. c && (has_id a id || has_id b id)) (lt-ltb id count lt) ∙ sym is

pub outside_past : (count q : ℕ) (ids : List ℕ) → count ≤ q → is_outside count ids q ≡ false
outside_past count q ids le = ap (λ c. c && not (has_id ids q)) (le-ltb q count le)

pub either_past : (count q : ℕ) (a b : List ℕ) → count ≤ q → is_in_either count a b q ≡ false
either_past count q a b le = ap (λ c. c && (has_id a q || has_id b q)) (le-ltb q count le)
