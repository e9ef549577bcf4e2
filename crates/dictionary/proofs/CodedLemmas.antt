-- A column by the places of its values among those that were seen, and by their ids.
use Rattle.std.proofs.Common.{◌≡◌, ◌∙◌, ◌<◌, ◌++◌, ◌∷◌, [], ℕ, pos, Bool, true, false, List, length, map, get_or, take, drop, refl, ap, ap₂, sym, subst, arith}
use Rattle.std.specs.List.{All, Contains}
use Rattle.std.proofs.lemmas.List.{append-nil, get_or-map, get_or_default, length-drop, length-map, nil_from_length, take_all}
use Rattle.std.proofs.lemmas.List.Elements.{All-cons, All-contains, All-head, All-nil, All-tail}
use Rattle.std.proofs.lemmas.Map.Views.{Contains-from_any, list_any-from_Contains}
use Rattle.values.specs.declared.value.Value.{Value}
use Rattle.values.specs.declared.value.Value.TheVariants.{Whole}
use Rattle.values.specs.Order.Laws.{value_eq-equiv}
use Rattle.values.specs.Tests.{is_member}
use Rattle.values.proofs.Bounds.{same_value}
use Rattle.value_ids.specs.Coding.{AreAmong, AreBelow, Codes, Sees, renumbered, values_at}
use Rattle.value_ids.specs.Dictionary.{distinct}
use Rattle.value_ids.proofs.DistinctLemmas.{distinct_so}

-- ---- values of one form

map_contains : {A : Type 0} (f : A → Value) (xs : List A) (x : A) → Contains xs x → Contains (map f xs) (f x)
map_contains f xs x (k, lt, is) = (k, omega (arith, length-map xs f, lt), get_or-map f xs k x (f x) lt ∙ ap f is)

map_among : {A : Type 0} (f : A → Value) (column seen : List A) → All (Contains column) seen → AreAmong (map f column) (map f seen)
map_among f column [] all = All-nil (Contains (map f column))
map_among f column (x ∷ xs) all =
    All-cons (Contains (map f column)) (f x) (map f xs) (map_contains f column x (All-head (Contains column) x xs all)) (map_among f column xs (All-tail (Contains column) x xs all))

map_at : {A : Type 0} (f : A → Value) (d : A) (seen : List A) (ids : List ℕ) → AreBelow (length seen) ids → values_at (map f seen) ids ≡ map f (map (λ id. get_or seen id d) ids)
map_at f d seen [] below = refl
map_at f d seen (id ∷ ids) below =
    ap₂ ◌∷◌ (get_or-map f seen id d (Whole (pos 0)) (All-head (λ i. i < length seen) id ids below)) (map_at f d seen ids (All-tail (λ i. i < length seen) id ids below))

pub sees_mapped : {A : Type 0} (f : A → Value) (d : A) (column seen : List A) (ids : List ℕ) → map (λ id. get_or seen id d) ids ≡ column → AreBelow (length seen) ids → All (Contains column) seen
    → Sees (map f column) (map f seen) ids
sees_mapped f d column seen ids each below among = record {
  codes = record {
    each = map_at f d seen ids below ∙ ap (map f) each;
    below = subst (λ n. AreBelow n ids) (sym (length-map seen f)) below;
  };
  among = map_among f column seen among;
}

-- ---- members

same_test : (a b : Bool) → (a ≡ true → b ≡ true) → (b ≡ true → a ≡ true) → a ≡ b
same_test true true there back = refl
same_test true false there back = sym (there refl)
same_test false true there back = back refl
same_test false false there back = refl

all_seen : (seen : List Value) (ids : List ℕ) → AreBelow (length seen) ids → All (Contains seen) (values_at seen ids)
all_seen seen [] below = All-nil (Contains seen)
all_seen seen (id ∷ ids) below =
    let lt : id < length seen = All-head (λ i. i < length seen) id ids below in
    let here : Contains seen (get_or seen id (Whole (pos 0))) = (id, lt, get_or_default seen id (get_or seen id (Whole (pos 0))) (Whole (pos 0)) lt) in
    All-cons (Contains seen) (get_or seen id (Whole (pos 0))) (values_at seen ids) here (all_seen seen ids (All-tail (λ i. i < length seen) id ids below))

-- the values that were seen are those of the column
pub sees_members : (column seen : List Value) (ids : List ℕ) → Sees column seen ids → (q : Value) → is_member seen q ≡ is_member column q
sees_members column seen ids s q =
    same_test (is_member seen q) (is_member column q)
    (λ e. list_any-from_Contains value_eq-equiv q column (All-contains (Contains column) seen q s.among (Contains-from_any same_value q seen e)))
    (λ e. list_any-from_Contains value_eq-equiv q seen (All-contains (Contains seen) column q (subst (All (Contains seen)) s.codes.each (all_seen seen ids s.codes.below)) (Contains-from_any same_value q column e)))

-- ---- ranks

ranks_count : (values seen : List Value) (ranks : List ℕ) → Codes values ranks seen → length ranks ≡ length seen
ranks_count values seen ranks r = sym (length-map ranks (λ id. get_or values id (Whole (pos 0)))) ∙ ap length r.each

-- each place has a rank
pub ranks_all : (values seen column : List Value) (ranks ids : List ℕ) → Codes values ranks seen → Codes seen ids column → AreBelow (length ranks) ids
ranks_all values seen column ranks ids r s = subst (λ n. AreBelow n ids) (sym (ranks_count values seen ranks r)) s.below

renumbered_each : (values seen : List Value) (ranks ids : List ℕ) → Codes values ranks seen → AreBelow (length ranks) ids → values_at values (renumbered ranks ids) ≡ values_at seen ids
renumbered_each values seen ranks [] r below = refl
renumbered_each values seen ranks (id ∷ ids) r below =
    let lt : id < length ranks = All-head (λ i. i < length ranks) id ids below in
    let one : get_or values (get_or ranks id 0) (Whole (pos 0)) ≡ get_or seen id (Whole (pos 0)) =
    sym (get_or-map (λ k. get_or values k (Whole (pos 0))) ranks id 0 (Whole (pos 0)) lt) ∙ ap (λ vs. get_or vs id (Whole (pos 0))) r.each in
    ap₂ ◌∷◌ one (renumbered_each values seen ranks ids r (All-tail (λ i. i < length ranks) id ids below))

renumbered_below : (count : ℕ) (ranks ids : List ℕ) → AreBelow count ranks → AreBelow (length ranks) ids → AreBelow count (renumbered ranks ids)
renumbered_below count ranks [] all below = All-nil (λ i. i < count)
renumbered_below count ranks (id ∷ ids) all below =
    All-cons (λ i. i < count) (get_or ranks id 0) (renumbered ranks ids) (all id 0 (All-head (λ i. i < length ranks) id ids below)) (renumbered_below count ranks ids all (All-tail (λ i. i < length ranks) id ids below))

-- the ids in ascending order
pub renumbered_codes : (values seen column : List Value) (ranks ids ids' : List ℕ) → Codes values ranks seen → Codes seen ids column → ids' ≡ renumbered ranks ids → Codes values ids' column
renumbered_codes values seen column ranks ids ids' r s is =
    let below : AreBelow (length ranks) ids = ranks_all values seen column ranks ids r s in
    subst (λ new. Codes values new column) (sym is) (record {
      each = renumbered_each values seen ranks ids r below ∙ s.each;
      below = renumbered_below (length values) ranks ids r.below below;
    })

-- the distinct values of those that were seen are the column's
pub column_so : (column seen slice values : List Value) (ids : List ℕ) → Sees column seen ids → slice ≡ seen → values ≡ distinct slice → values ≡ distinct column
column_so column seen slice values ids s same is = distinct_so column seen values (sees_members column seen ids s) (is ∙ ap distinct same)

-- a slice that was lent and written is all of its vector
pub lent_back : {X : Type 0} (old new : List X) (n : ℕ) → length old ≡ n → length new ≡ length old → take n (new ++ drop (length new) old) ≡ new
lent_back old new n count same =
    let none : length (drop (length new) old) ≡ 0 = omega (arith, length-drop (length new) old, same) in
    ap (λ rest. take n (new ++ rest)) (nil_from_length (drop (length new) old) none) ∙ ap (take n) (append-nil new) ∙ take_all n new (omega (arith, count, same))
