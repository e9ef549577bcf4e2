-- The groups that a query asks for, by their places.
use Rattle.std.proofs.Common.{◌≡◌, ◌∙◌, ℕ, zero, suc, ◌+◌, ◌<◌, ◌≤◌, ◌^◌, Bool, true, false, cond, List, [], ◌∷◌, ◌++◌, length, get_or, slice_index, map, take, Option, Some, None, refl, sym, ap, ap₂, subst, arith}
use Rattle.std.specs.List.{All, filter, range_with_len, IsDistinct}
use Rattle.std.specs.Map.{keys_of}
use Rattle.std.specs.FinMap as finite
use Rattle.std.proofs.lemmas.List.{get_or-map, length-map}
use Rattle.std.proofs.lemmas.List.Elements.{All-filter, All-map}
use Rattle.std.proofs.lemmas.List.FromFn.{filter_of_map_range_with_len_more, length-range_with_len}
use Rattle.std.proofs.lemmas.Map.Made.{IsDistinct-keys_filter}
use Rattle.table_schema.specs.declared.query.Having.{Having}
use Rattle.table_schema.specs.declared.query.OrderKey.{OrderKey}
use Rattle.group_table.specs.Groups.{Group}
use Rattle.group_table.specs.Kept.{KeptGroups, IsTable, group_at, groups_in, key_eq}
use Rattle.broker_merge.specs.Order.{in_order}
use Rattle.broker_merge.specs.Having.{group_holds, asked_groups, asked_places}
use Rattle.broker_merge.specs.Ranked.{AreKept, BeginInOrder}
use Rattle.broker_merge.proofs.AnswerLemmas.{both_maps}
use Rattle.broker_merge.proofs.FewLemmas.{few_in_order}
use Rattle.broker_merge.proofs.OrderLemmas.{found, found_kept}
use Rattle.broker_merge.proofs.RankLemmas.{Entry, all_below, all_groups, map_same}

-- ---- those that are asked for

kept_by : {A B : Type 0} (p : B → Bool) (f : A → B) (b : Bool) (x : A) (xs : List A) (ys : List B) → map f xs ≡ ys → map f (cond b (x ∷ xs) xs) ≡ cond b (f x ∷ ys) ys
kept_by p f true x xs ys e = ap (λ l. f x ∷ l) e
kept_by p f false x xs ys e = e

map_filter : {A B : Type 0} (p : B → Bool) (f : A → B) (xs : List A) → map f (filter (λ x. p (f x)) xs) ≡ filter p (map f xs)
map_filter p f [] = refl
map_filter p f (x ∷ xs) = kept_by p f (p (f x)) x (filter (λ x. p (f x)) xs) (filter p (map f xs)) (map_filter p f xs)

-- one more number
pub filter_more : (p : ℕ → Bool) (n : ℕ) → filter p (range_with_len 0 (n + 1)) ≡ filter p (range_with_len 0 n) ++ cond (p n) (n ∷ []) []
filter_more p n = ap (filter p) (sym (map_same (range_with_len 0 (n + 1)))) ∙ filter_of_map_range_with_len_more p (λ k. k) 0 n n (omega arith)
    ∙ ap (λ l. filter p l ++ cond (p n) (n ∷ []) []) (map_same (range_with_len 0 n))

pub asked_at : (t : KeptGroups) (o : Option Having) → map (group_at t) (asked_places t o) ≡ asked_groups o t.groups
asked_at t None = sym (all_groups t)
asked_at t (Some h) = map_filter (λ group. group_holds group h) (group_at t) (range_with_len 0 (length t.groups)) ∙ ap (filter (λ group. group_holds group h)) (sym (all_groups t))

asked_once : (t : KeptGroups) (o : Option Having) → IsDistinct key_eq (keys_of t.groups) → IsDistinct key_eq (keys_of (asked_groups o t.groups))
asked_once t None once = once
asked_once t (Some h) once = IsDistinct-keys_filter key_eq (λ group. group_holds group h) t.groups once

asked_below : (t : KeptGroups) (o : Option Having) → All (λ at. at < length t.groups) (asked_places t o)
asked_below t None = all_below (length t.groups)
asked_below t (Some h) = All-filter (λ at. group_holds (group_at t at) h) (λ at. at < length t.groups) (range_with_len 0 (length t.groups)) (all_below (length t.groups))

fewer_by : {A : Type 0} (b : Bool) (x : A) (xs ys : List A) → length xs ≤ length ys → length (cond b (x ∷ xs) xs) ≤ length (x ∷ ys)
fewer_by true x xs ys le = omega (arith, le)
fewer_by false x xs ys le = omega (arith, le)

fewer : {A : Type 0} (p : A → Bool) (xs : List A) → length (filter p xs) ≤ length xs
fewer p [] = omega arith
fewer p (x ∷ xs) = fewer_by (p x) x (filter p xs) xs (fewer p xs)

pub asked_fewer : (t : KeptGroups) (o : Option Having) → length (asked_places t o) ≤ length t.groups
asked_fewer t None = omega (arith, length-range_with_len 0 (length t.groups))
asked_fewer t (Some h) = omega (arith, length-range_with_len 0 (length t.groups), fewer (λ at. group_holds (group_at t at) h) (range_with_len 0 (length t.groups)))

pub asked_kept : (t : KeptGroups) (o : Option Having) → IsTable t → AreKept t (asked_places t o)
asked_kept t o table = record {
  below = asked_below t o;
  once = subst (λ gs. IsDistinct key_eq (keys_of gs)) (sym (asked_at t o)) (asked_once t o table.once);
  few = omega (arith, asked_fewer t o, table.at_most, table.most_fits);
}

-- in order they are those of the map
pub asked_in_order : (t : KeptGroups) (order : List OrderKey) (o : Option Having) → IsTable t
    → in_order order (map (group_at t) (asked_places t o)) ≡ in_order order (asked_groups o (finite.entries (groups_in t)))
asked_in_order t order None table = ap (in_order order) (asked_at t None) ∙ sym (found order t.groups table.once)
asked_in_order t order (Some h) table = ap (in_order order) (asked_at t (Some h)) ∙ sym (found_kept order (λ group. group_holds group h) t.groups table.once)

pub begun_as : (t : KeptGroups) (gs hs : List Group) (order : List OrderKey) (most : ℕ) (places : List ℕ) → in_order order gs ≡ in_order order hs
    → BeginInOrder t gs order most places → BeginInOrder t hs order most places
begun_as t gs hs order most places e h = record { below = h.below; begins = h.begins ∙ ap (take most) e }

-- fewer than two are in order
pub few_begin : (t : KeptGroups) (order : List OrderKey) (most : ℕ) (o : Option Having) → IsTable t → length (asked_places t o) < 2
    → BeginInOrder t (asked_groups o (finite.entries (groups_in t))) order most (asked_places t o)
few_begin t order most o table few = record {
  below = asked_below t o;
  begins = ap (take most) (few_in_order order (map (group_at t) (asked_places t o)) (omega (arith, few, length-map (asked_places t o) (group_at t))) ∙ asked_in_order t order o table);
}

-- ---- numbers of places, and the places

module _ (t : KeptGroups) (kept : List ℕ) where
  -- the table of the groups at these places
  abbrev pub chosen : KeptGroups
  chosen = record t { groups = map (group_at t) kept }

  pub as_many : length chosen.groups ≡ length kept
  as_many = length-map kept (group_at t)

  same_maps : (f g : ℕ → Group) (n : ℕ) → ((i : ℕ) → i < n → f i ≡ g i) → (xs : List ℕ) → All (λ i. i < n) xs → map f xs ≡ map g xs
  same_maps f g n e [] h = refl
  same_maps f g n e (x ∷ xs) h = ap₂ (λ y ys. y ∷ ys) (e x (h 0 x (omega arith))) (same_maps f g n e xs (λ k d lt. h (suc k) d (omega (arith, lt))))

  pub chosen_at : (order : List OrderKey) (most : ℕ) (l : List Entry) → All (λ at. at < length t.groups) kept
      → BeginInOrder chosen chosen.groups order most (map (λ (r : Entry). r.1) l)
      → BeginInOrder t chosen.groups order most (map (λ (r : Entry). slice_index kept r.1) l)
  chosen_at order most l within h =
      let numbers : List ℕ = map (λ (r : Entry). r.1) l in
      let places : map (λ (r : Entry). slice_index kept r.1) l ≡ map (slice_index kept) numbers = both_maps (slice_index kept) (λ (r : Entry). r.1) l in
      let short : All (λ i. i < length kept) numbers = subst (λ n. All (λ i. i < n) numbers) as_many h.below in
      subst (BeginInOrder t chosen.groups order most) (sym places) (record {
        below = All-map (λ at. at < length t.groups) (slice_index kept) numbers (λ k d lt. within (get_or numbers k d) 0 (short k d lt));
        begins = ap (take most) (sym (both_maps (group_at t) (slice_index kept) numbers)
            ∙ same_maps (λ i. group_at t (slice_index kept i)) (group_at chosen) (length kept) (λ i lt. sym (get_or-map (group_at t) kept i 0 ([], []) lt)) numbers short) ∙ h.begins;
      })
