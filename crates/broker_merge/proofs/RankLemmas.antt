-- What groups are compared by orders them as the groups are.
use Rattle.std.proofs.Common.{◌≡◌, ◌∙◌, ℕ, zero, suc, ◌+◌, ◌*◌, ◌<◌, Bool, true, false, List, [], ◌∷◌, ◌++◌, map, flat_map, length, take, drop, get_or, IsPermutation, Some, refl, sym, ap, subst, arith, length-append}
use Rattle.std.specs.declared.cmp.Ordering.{Ordering}
use Rattle.std.specs.declared.cmp.Ordering.TheVariants.{Less, Equal, Greater}
use Rattle.std.specs.Ordering.{ordering_then, is_lt, nat_cmp}
use Rattle.std.specs.Borrow.{Bor}
use Rattle.std.specs.Fork.{slice_chunk}
use Rattle.std.specs.Cmp.{IsTotalOrder}
use Rattle.std.specs.List.Sorted.{IsSorted, IsSplitAround}
use Rattle.std.specs.Cmp.Lexicographic.{slice_cmp}
use Rattle.std.specs.List.{All, AllByRecursion, slice_get, range_with_len}
use Rattle.std.proofs.lemmas.List.{get_or-append-add, get_or-map, get_or_append_left, length-map, map-append, take_all, take_at}
use Rattle.std.proofs.lemmas.List.Elements.{All-cons, All-map, All-push}
use Rattle.std.proofs.lemmas.List.FromFn.{map-range_with_len_more, length-range_with_len, get_or-range_with_len, fill_by_all}
use Rattle.std.proofs.lemmas.List.Sorted.{All-permutation, IsPermutation-append, IsPermutation-map, IsPermutation-trans, length_permutation}
use Rattle.std.proofs.Math.Seq.{drop-append-add, take-append_seam}
use Rattle.agg_laws.specs.declared.states.AggState.{AggState}
use Rattle.agg_laws.specs.Numbers.{most_values}
use Rattle.agg_laws.specs.Rows.{RowFits}
use Rattle.table_schema.specs.declared.query.Item.{Item}
use Rattle.table_schema.specs.declared.query.Item.TheVariants as item
use Rattle.table_schema.specs.declared.query.OrderKey.{OrderKey}
use Rattle.group_table.specs.Groups.{Group, key_order}
use Rattle.std.specs.List.{IsDistinct}
use Rattle.std.specs.Map.{keys_of}
use Rattle.group_table.specs.Kept.{KeptGroups, IsGroup, IsTable, HaveValues, group_at, key_eq}
use Rattle.broker_merge.specs.Order.{item_order, directed, group_order, in_order}
use Rattle.broker_merge.specs.Rank.{Placed, IsFair, placed_order, turned_order, seen_order, seen_at, placed_at, places_of, key_place}
use Rattle.broker_merge.specs.Ranked.{AreRanked, BeginInOrder}
use Rattle.broker_merge.proofs.JoinLemmas.{not_itself, not_less_on, sorted_append}
use Rattle.broker_merge.proofs.OrderLemmas.{group_total, in_order_is, permuted, sorted as in_order_sorted}

-- ---- the groups of a table

at_place : (P : Group → Type 0) (gs : List Group) (i : ℕ) (d : Group) → AllByRecursion P gs → i < length gs → P (get_or gs i d)
at_place P [] i d h lt = absurd (omega arith)
at_place P (g ∷ gs) zero d h lt = h.0
at_place P (g ∷ gs) (suc i) d h lt = at_place P gs i d h.1 (omega arith)

pub each_group : (t : KeptGroups) (at : ℕ) → IsTable t → at < length t.groups → IsGroup t.columns t.kinds (group_at t at)
each_group t at table lt = at_place (IsGroup t.columns t.kinds) t.groups at ([], []) table.each lt

fair_at : (states : List AggState) (i : ℕ) (s : AggState) → HaveValues states → RowFits states most_values → slice_get states i ≡ Some s → IsFair s
fair_at [] i s h f e = cc
fair_at (v ∷ vs) zero s h f e = let is : v ≡ s = cc in subst IsFair is (record { values = h.0; fits = f.0 })
fair_at (v ∷ vs) (suc i) s h f e = fair_at vs i s h.1 f.1 e

-- each aggregate of a group can be compared, where there are group columns
pub fair_state : (t : KeptGroups) (at i : ℕ) (s : AggState) → IsTable t → at < length t.groups → 0 < t.columns
    → slice_get (group_at t at).1 i ≡ Some s → IsFair s
fair_state t at i s table lt some e =
    let group = each_group t at table lt in
    fair_at (group_at t at).1 i s (group.values some) group.fits e

-- ---- the order

then_none : (o : Ordering) → ordering_then o Equal ≡ o
then_none Less = refl
then_none Equal = refl
then_none Greater = refl

at_item : (i : Item) (a b : Group) → seen_order (seen_at a i) (seen_at b i) ≡ item_order i a b
at_item (item.Group place) a b = refl
at_item (item.Agg place) a b = refl

at_key : (d : Bool) (i : Item) (a b : Group) → turned_order d d (seen_at a i) (seen_at b i) ≡ directed d (item_order i a b)
at_key false i a b = at_item i a b
at_key true i a b = ap (directed true) (at_item i a b)

pub same_order : (order : List OrderKey) (a b : Group) → slice_cmp placed_order (places_of order a) (places_of order b) ≡ group_order order a b
same_order [] a b = then_none (key_order a.0 b.0)
same_order (k ∷ ks) a b = λ i. ordering_then (at_key k.descending k.item a b i) (same_order ks a b i)

-- ---- shares of a list that is made of lists of one length

pub length_places : (order : List OrderKey) (g : Group) → length (places_of order g) ≡ length order + 1
length_places order g = length-append (map (placed_at g) order) (key_place g ∷ []) ∙ ap (λ n. n + 1) (length-map order (placed_at g))

times_suc : (n w : ℕ) → suc n * w ≡ w + n * w
times_suc n w = omega arith

module _ {X A : Type 0} (f : X → List A) (w : ℕ) (each : (x : X) → length (f x) ≡ w) where
  pub length_shares : (xs : List X) → length (flat_map f xs) ≡ length xs * w
  length_shares [] = let e : 0 ≡ 0 * w = omega arith in e
  length_shares (x ∷ xs) = length-append (f x) (flat_map f xs) ∙ (λ i. each x i + length_shares xs i) ∙ sym (times_suc (length xs) w)

  pub share : (xs : List X) (i : ℕ) (d : X) → i < length xs → slice_chunk (flat_map f xs) w i ≡ f (get_or xs i d)
  share [] i d lt = absurd (omega arith)
  share (x ∷ xs) zero d lt =
      let none : 0 * w ≡ 0 = omega arith in
      ap (λ n. take w (drop n (f x ++ flat_map f xs))) none
      ∙ ap (λ n. take n (f x ++ flat_map f xs)) (sym (each x)) ∙ take-append_seam (f x) (flat_map f xs)
  share (x ∷ xs) (suc i) d lt =
      ap (λ n. take w (drop n (f x ++ flat_map f xs))) (times_suc i w ∙ ap (λ n. n + i * w) (sym (each x)))
      ∙ ap (take w) (drop-append-add (f x) (flat_map f xs) (i * w)) ∙ share xs i d (omega arith)

-- ---- groups ranked

pub map_same : (xs : List ℕ) → map (λ k. k) xs ≡ xs
map_same [] = refl
map_same (x ∷ xs) = ap (λ l. x ∷ l) (map_same xs)

pub range_more : (n : ℕ) → range_with_len 0 (n + 1) ≡ range_with_len 0 n ++ n ∷ []
range_more n = sym (map_same (range_with_len 0 (n + 1))) ∙ map-range_with_len_more (λ k. k) 0 n n (omega arith)
    ∙ ap (λ l. l ++ n ∷ []) (map_same (range_with_len 0 n))

abbrev pub Entry : Type 0
Entry = Bor (List Placed) × ℕ

pub pushed : (places : List Placed) (w k : ℕ) (ranked : List Entry) (r : Entry) → AreRanked places w k ranked
    → r.0.now ≡ slice_chunk places w k → r.1 ≡ k → AreRanked places w (k + 1) (ranked ++ r ∷ [])
pushed places w k ranked r h shown at = record {
  each = All-push (λ (r : Entry). r.0.now ≡ slice_chunk places w r.1) ranked r h.each (shown ∙ ap (slice_chunk places w) (sym at));
  all = map-append (λ (r : Entry). r.1) ranked (r ∷ []) ∙ (λ i. h.all i ++ at i ∷ []) ∙ sym (range_more k);
}

pub all_below : (n : ℕ) → All (λ k. k < n) (range_with_len 0 n)
all_below n k d lt =
    let short : k < n = subst (λ m. k < m) (length-range_with_len 0 n) lt in
    let is : get_or (range_with_len 0 n) k d ≡ 0 + k = get_or-range_with_len 0 n k d short in
    omega arith

pub all_groups : (t : KeptGroups) → t.groups ≡ map (group_at t) (range_with_len 0 (length t.groups))
all_groups t = fill_by_all (group_at t) t.groups (length t.groups) ([], []) refl (λ k lt. refl)

then_less : (a b : Ordering) → is_lt (ordering_then a b) ≡ false → is_lt a ≡ false
then_less Less b e = e
then_less Equal b e = refl
then_less Greater b e = refl

first_entry : (l : List Entry) → 0 < length l → Entry
first_entry [] h = absurd (omega arith)
first_entry (x ∷ xs) h = x

-- what ranks the entries
abbrev pub entry_order : Entry → Entry → Ordering
entry_order a b = ordering_then (slice_cmp placed_order a.0.now b.0.now) (nat_cmp a.1 b.1)

all_left : {A : Type 0} (P : A → Type 0) (xs ys : List A) → All P (xs ++ ys) → All P xs
all_left P xs ys h = λ k d lt. subst P (get_or_append_left xs ys d k lt) (h k d (omega (arith, length-append xs ys, lt)))

all_right : {A : Type 0} (P : A → Type 0) (xs ys : List A) → All P (xs ++ ys) → All P ys
all_right P xs ys h = λ k d lt. subst P (get_or-append-add xs ys k d) (h (length xs + k) d (omega (arith, length-append xs ys, lt)))

module _ (t : KeptGroups) (order : List OrderKey) where
  abbrev all_places : List Placed
  all_places = flat_map (places_of order) t.groups

  same_width : (g : Group) → length (places_of order g) ≡ length order + 1
  same_width = length_places order

  shows : (r : Entry) → r.1 < length t.groups → r.0.now ≡ slice_chunk all_places (length order + 1) r.1 → r.0.now ≡ places_of order (group_at t r.1)
  shows r lt is = is ∙ share (places_of order) (length order + 1) (same_width) t.groups r.1 ([], []) lt

  ranks : (b a : Entry) → b.1 < length t.groups → a.1 < length t.groups
      → b.0.now ≡ slice_chunk all_places (length order + 1) b.1 → a.0.now ≡ slice_chunk all_places (length order + 1) a.1
      → group_order order (group_at t b.1) (group_at t a.1) ≡ slice_cmp placed_order b.0.now a.0.now
  ranks b a p q x y = sym ((λ i. slice_cmp placed_order (shows b p x i) (shows a q y i)) ∙ same_order order (group_at t b.1) (group_at t a.1))

  at_place_of : (l : List Entry) (k : ℕ) (d : Group) (e : Entry) → k < length l
      → get_or (map (group_at t) (map (λ (r : Entry). r.1) l)) k d ≡ group_at t (get_or l k e).1
  at_place_of l k d e lt =
      let lt' : k < length (map (λ (r : Entry). r.1) l) = subst (λ n. k < n) (sym (length-map l (λ (r : Entry). r.1))) lt in
      get_or-map (group_at t) (map (λ (r : Entry). r.1) l) k 0 d lt' ∙ ap (group_at t) (get_or-map (λ (r : Entry). r.1) l k e 0 lt)

  pub ranked_all : (places : List Placed) (count : ℕ) (ranked : List Entry) → places ≡ all_places → count ≡ length t.groups → AreRanked places (length order + 1) count ranked
      → AreRanked all_places (length order + 1) (length t.groups) ranked
  ranked_all places count ranked is so h = subst (λ l. AreRanked l (length order + 1) (length t.groups) ranked) is (subst (λ n. AreRanked places (length order + 1) n ranked) so h)

  -- entries of groups of the table, each with its own share
  pub record AreShown (l : List Entry) : Type 0 where
    pub below : All (λ (r : Entry). r.1 < length t.groups) l
    pub each : All (λ (r : Entry). r.0.now ≡ slice_chunk all_places (length order + 1) r.1) l

  -- the groups of entries
  abbrev pub groups_at : List Entry → List Group
  groups_at l = map (group_at t) (map (λ (r : Entry). r.1) l)

  pub all_shown : (ranked : List Entry) → AreRanked all_places (length order + 1) (length t.groups) ranked → AreShown ranked
  all_shown ranked h = record {
    below = λ k d lt. subst (λ j. j < length t.groups) (get_or-map (λ (r : Entry). r.1) ranked k d 0 lt)
        (subst (All (λ k. k < length t.groups)) (sym h.all) (all_below (length t.groups)) k 0 (subst (λ n. k < n) (sym (length-map ranked (λ (r : Entry). r.1))) lt));
    each = h.each;
  }

  pub shown_moved : (l m : List Entry) → IsPermutation l m → AreShown l → AreShown m
  shown_moved l m p h = record {
    below = All-permutation (λ (r : Entry). r.1 < length t.groups) l m p h.below;
    each = All-permutation (λ (r : Entry). r.0.now ≡ slice_chunk all_places (length order + 1) r.1) l m p h.each;
  }

  -- an entry that is not less than another has a group that is not
  pub not_less : (b a : Entry) → b.1 < length t.groups → a.1 < length t.groups
      → b.0.now ≡ slice_chunk all_places (length order + 1) b.1 → a.0.now ≡ slice_chunk all_places (length order + 1) a.1
      → is_lt (entry_order b a) ≡ false → is_lt (group_order order (group_at t b.1) (group_at t a.1)) ≡ false
  not_less b a p q x y h =
      then_less (group_order order (group_at t b.1) (group_at t a.1)) (nat_cmp b.1 a.1)
      ((λ i. is_lt (ordering_then (ranks b a p q x y i) (nat_cmp b.1 a.1))) ∙ h)

  -- sorted entries have sorted groups
  pub sorted_groups : (l : List Entry) → AreShown l → IsSorted entry_order l → IsSorted (group_order order) (groups_at l)
  sorted_groups l h s k d low lt =
      let len : length (groups_at l) ≡ length l = length-map (map (λ (r : Entry). r.1) l) (group_at t) ∙ length-map l (λ (r : Entry). r.1) in
      let lt' : k + 1 < length l = omega arith in
      let e = first_entry l (omega arith) in
      (λ i. is_lt (group_order order (at_place_of l (k + 1) d e lt' i) (at_place_of l k d e (omega arith) i)))
      ∙ not_less (get_or l (k + 1) e) (get_or l k e) (h.below (k + 1) e lt') (h.below k e (omega arith)) (h.each (k + 1) e lt') (h.each k e (omega arith)) (s k e low lt')

  -- the groups of all entries, however they are moved, are those of the table
  pub moved_groups : (ranked new : List Entry) → AreRanked all_places (length order + 1) (length t.groups) ranked → IsPermutation ranked new → IsPermutation t.groups (groups_at new)
  moved_groups ranked new h p =
      subst (λ (es : List Group). IsPermutation es (groups_at new)) (sym (all_groups t))
      (IsPermutation-map (group_at t) (range_with_len 0 (length t.groups)) (map (λ (r : Entry). r.1) new)
      (subst (λ (l : List ℕ). IsPermutation l (map (λ (r : Entry). r.1) new)) h.all (IsPermutation-map (λ (r : Entry). r.1) ranked new p)))

  pub below_places : (l : List Entry) → AreShown l → All (λ k. k < length t.groups) (map (λ (r : Entry). r.1) l)
  below_places l h = All-map (λ k. k < length t.groups) (λ (r : Entry). r.1) l h.below

  -- sorted entries are the places in order
  pub in_order_places : (most : ℕ) (ranked new : List Entry) → IsDistinct key_eq (keys_of t.groups) → AreRanked all_places (length order + 1) (length t.groups) ranked
      → IsPermutation ranked new → IsSorted entry_order new → BeginInOrder t t.groups order most (map (λ (r : Entry). r.1) new)
  in_order_places most ranked new once h p s =
      let shown : AreShown new = shown_moved ranked new p (all_shown ranked h) in
      record {
        below = below_places new shown;
        begins = ap (take most) (in_order_is order t.groups (groups_at new) (moved_groups ranked new h p) once (sorted_groups new shown s));
      }

  left_shown : (l m : List Entry) → AreShown (l ++ m) → AreShown l
  left_shown l m h = record {
    below = all_left (λ (r : Entry). r.1 < length t.groups) l m h.below;
    each = all_left (λ (r : Entry). r.0.now ≡ slice_chunk all_places (length order + 1) r.1) l m h.each;
  }

  right_shown : (l m : List Entry) → AreShown (l ++ m) → AreShown m
  right_shown l m h = record {
    below = all_right (λ (r : Entry). r.1 < length t.groups) l m h.below;
    each = all_right (λ (r : Entry). r.0.now ≡ slice_chunk all_places (length order + 1) r.1) l m h.each;
  }

  all_groups_at : (P : Group → Type 0) (l : List Entry) → All (λ (r : Entry). P (group_at t r.1)) l → All P (groups_at l)
  all_groups_at P l h = All-map P (group_at t) (map (λ (r : Entry). r.1) l) (All-map (λ j. P (group_at t j)) (λ (r : Entry). r.1) l h)

  -- entries that were chosen as the first, and moved, are of the table
  pub first_below : (ranked front first back : List Entry) (x : Entry) → AreRanked all_places (length order + 1) (length t.groups) ranked
      → IsPermutation ranked (front ++ x ∷ back) → IsPermutation front first → All (λ (r : Entry). r.1 < length t.groups) first
  first_below ranked front first back x h p q =
      let shown = shown_moved ranked (front ++ x ∷ back) p (all_shown ranked h) in
      (shown_moved front first q (left_shown front (x ∷ back) shown)).below

  -- so are those that were chosen as the first, and sorted
  pub first_places : (most : ℕ) (ranked front first back : List Entry) (x : Entry) → IsDistinct key_eq (keys_of t.groups) → AreRanked all_places (length order + 1) (length t.groups) ranked
      → IsPermutation ranked (front ++ x ∷ back) → length front ≡ most → IsSplitAround entry_order front x back → IsPermutation front first → IsSorted entry_order first
      → BeginInOrder t t.groups order most (map (λ (r : Entry). r.1) first)
  first_places most ranked front first back x once h p count split q s = record {
    below = below_places first begun;
    begins = take_all most fs (omega (arith, lengths)) ∙ sym (take_at fs rs most lengths) ∙ ap (take most) (in_order_is order t.groups (fs ++ rs) moved once joined);
  }
    where
      shown : AreShown (front ++ x ∷ back)
      shown = shown_moved ranked (front ++ x ∷ back) p (all_shown ranked h)

      before : AreShown front
      before = left_shown front (x ∷ back) shown

      behind : AreShown (x ∷ back)
      behind = right_shown front (x ∷ back) shown

      begun : AreShown first
      begun = shown_moved front first q before

      fs : List Group
      fs = groups_at first

      rs : List Group
      rs = in_order order (groups_at (x ∷ back))

      middle : Group
      middle = group_at t x.1

      lengths : length fs ≡ most
      lengths = length-map (map (λ (r : Entry). r.1) first) (group_at t) ∙ length-map first (λ (r : Entry). r.1) ∙ length_permutation front first q ∙ count

      parts : groups_at (front ++ x ∷ back) ≡ groups_at front ++ groups_at (x ∷ back)
      parts = ap (map (group_at t)) (map-append (λ (r : Entry). r.1) front (x ∷ back)) ∙ map-append (group_at t) (map (λ (r : Entry). r.1) front) (map (λ (r : Entry). r.1) (x ∷ back))

      turned : IsPermutation (groups_at front) fs
      turned = IsPermutation-map (group_at t) (map (λ (r : Entry). r.1) front) (map (λ (r : Entry). r.1) first) (IsPermutation-map (λ (r : Entry). r.1) front first q)

      moved : IsPermutation t.groups (fs ++ rs)
      moved = IsPermutation-trans t.groups (groups_at front ++ groups_at (x ∷ back)) (fs ++ rs)
          (subst (IsPermutation t.groups) parts (moved_groups ranked (front ++ x ∷ back) h p))
          (IsPermutation-append (groups_at front) fs (groups_at (x ∷ back)) rs turned (permuted order (groups_at (x ∷ back))))

      total : IsTotalOrder (group_order order)
      total = group_total order

      x_below : x.1 < length t.groups
      x_below = behind.below 0 x (omega arith)

      x_shows : x.0.now ≡ slice_chunk all_places (length order + 1) x.1
      x_shows = behind.each 0 x (omega arith)

      no_less : All (λ g. is_lt (group_order order middle g) ≡ false) fs
      no_less = All-permutation (λ g. is_lt (group_order order middle g) ≡ false) (groups_at front) fs turned
          (all_groups_at (λ g. is_lt (group_order order middle g) ≡ false) front
          (λ k d lt. not_less x (get_or front k d) x_below (before.below k d lt) x_shows (before.each k d lt) (split.0 k d lt)))

      others : AreShown back
      others = right_shown (x ∷ []) back behind

      no_more : All (λ g. is_lt (group_order order g middle) ≡ false) rs
      no_more = All-permutation (λ g. is_lt (group_order order g middle) ≡ false) (groups_at (x ∷ back)) rs (permuted order (groups_at (x ∷ back)))
          (All-cons (λ g. is_lt (group_order order g middle) ≡ false) middle (groups_at back) (not_itself (group_order order) total middle)
          (all_groups_at (λ g. is_lt (group_order order g middle) ≡ false) back
          (λ k d lt. not_less (get_or back k d) x (others.below k d lt) x_below (others.each k d lt) x_shows (split.1 k d lt))))

      joined : IsSorted (group_order order) (fs ++ rs)
      joined = sorted_append (group_order order) fs rs (sorted_groups first begun s) (in_order_sorted order (groups_at (x ∷ back)))
          (λ i j d lo hi. not_less_on (group_order order) total middle (get_or fs i d) (get_or rs j d) (no_less i d lo) (no_more j d hi))
