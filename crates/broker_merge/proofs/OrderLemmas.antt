-- The order of groups is total, and groups in order do not depend on how they were found.
use Rattle.std.proofs.Common.{◌≡◌, ◌≢◌, ◌∙◌, ℕ, zero, suc, ◌+◌, ◌<◌, Bool, true, false, cond, List, [], ◌∷◌, length, get_or, Option, Some, None, refl, sym, ap, subst, arith, add-one, IsPermutation}
use Rattle.std.specs.declared.cmp.Ordering.{Ordering}
use Rattle.std.specs.declared.cmp.Ordering.TheVariants.{Less, Equal, Greater}
use Rattle.std.specs.Ordering.{ordering_reverse, ordering_then, is_lt, is_eq, eq_by_cmp}
use Rattle.std.specs.Cmp.{IsTotalOrder}
use Rattle.std.specs.List.{IsDistinct, AllByRecursion, filter}
use Rattle.std.specs.List.Sorted.{IsSorted}
use Rattle.std.specs.Map.{keys_of, lookup}
use Rattle.std.specs.FinMap as finite
use Rattle.std.specs.FinMap.{find}
use Rattle.std.specs.FinMap.Entries.{by_order, put}
use Rattle.std.proofs.lemmas.Cmp.{on_total, then_total, back_total}
use Rattle.std.proofs.lemmas.List.Sorted.{IsPermutation-map, IsPermutation-sym, IsPermutation-refl, IsPermutation-cons, IsPermutation-trans, IsPermutation-middle, Contains-permutation}
use Rattle.std.proofs.lemmas.Map.Keys.{IsDistinct-tail, IsDistinct-head, IsDistinct-IsPermutation}
use Rattle.std.proofs.lemmas.Map.Views.{Contains-from_lookup, lookup-from_Contains}
use Rattle.values.specs.declared.value.Value.{Value}
use Rattle.values.specs.Order.Laws.{value_order-total}
use Rattle.agg_laws.specs.declared.states.AggState.{AggState}
use Rattle.agg_laws.specs.laws.Order.{state_order_total}
use Rattle.table_schema.specs.Conditions.{cell}
use Rattle.table_schema.specs.declared.query.Item.{Item}
use Rattle.table_schema.specs.declared.query.Item.TheVariants as item
use Rattle.table_schema.specs.declared.query.OrderKey.{OrderKey}
use Rattle.group_table.specs.Groups.{Group, Groups, key_order}
use Rattle.group_table.specs.Kept.{key_eq}
use Rattle.group_table.proofs.KeptLemmas.{key_total, key_equiv, key_ties, key_same, same_key, get_lookup}
use Rattle.broker_merge.specs.Order.{state_in, item_order, directed, group_order, put_in, in_order}

-- ---- the order of groups

item_total : (i : Item) → IsTotalOrder (item_order i)
item_total (item.Group place) = on_total (λ (g : Group). cell g.0 place) value_order-total
item_total (item.Agg place) = on_total (λ (g : Group). state_in g place) state_order_total

directed_total : (descending : Bool) (R : Group → Group → Ordering) → IsTotalOrder R → IsTotalOrder (λ a b. directed descending (R a b))
directed_total false R o = o
directed_total true R o = subst IsTotalOrder (λ i a b. o.antisymm b a i) (back_total o)

pub group_total : (order : List OrderKey) → IsTotalOrder (group_order order)
group_total [] = on_total (λ (g : Group). g.0) key_total
group_total (k ∷ ks) = then_total (directed_total k.descending (item_order k.item) (item_total k.item)) (group_total ks)

then_equal : (a b : Ordering) → ordering_then a b ≡ Equal → b ≡ Equal
then_equal Less b e = cc
then_equal Equal b e = e
then_equal Greater b e = cc

-- groups that tie have one key
pub tied_keys : (order : List OrderKey) (a b : Group) → group_order order a b ≡ Equal → key_order a.0 b.0 ≡ Equal
tied_keys [] a b e = e
tied_keys (k ∷ ks) a b e = tied_keys ks a b (then_equal (directed k.descending (item_order k.item a b)) (group_order ks a b) e)

-- ---- groups put in their places

abbrev Apart : Group → Group → Type 0
Apart a b = key_order a.0 b.0 ≢ Equal

module _ (order : List OrderKey) where
  o : IsTotalOrder (group_order order)
  o = group_total order

  back : (a b : Group) (r : Ordering) → group_order order b a ≡ r → group_order order a b ≡ ordering_reverse r
  back a b r e = o.antisymm a b ∙ ap ordering_reverse e

  -- what is after f is after what is not
  after : (a f b : Group) (r : Ordering) → group_order order a f ≡ r → r ≢ Greater → group_order order b f ≡ Greater → group_order order b a ≡ Greater
  after a f b Less e h g = back b a Less (o.trans a f b e (back f b Greater g))
  after a f b Equal e h g = back b a Less (o.congr a f b e ∙ back f b Greater g)
  after a f b Greater e h g = absurd (h refl)

  not_less : Less ≢ Greater
  not_less e = cc

  not_equal : Equal ≢ Greater
  not_equal e = cc

  -- a and b before the same group
  both_before : (a b : Group) (rest : List Group) (ab : Ordering) → group_order order a b ≡ ab → ab ≢ Equal
      → by_order (group_order order a b) (a ∷ b ∷ rest) (a ∷ b ∷ rest) (b ∷ a ∷ rest)
      ≡ by_order (group_order order b a) (b ∷ a ∷ rest) (b ∷ a ∷ rest) (a ∷ b ∷ rest)
  both_before a b rest Less e h = rw (e, back b a Less e) refl
  both_before a b rest Equal e h = absurd (h refl)
  both_before a b rest Greater e h = rw (e, back b a Greater e) refl

  -- the order in which two groups of different keys are put in makes no difference
  swap_step : (a b f : Group) (fs : List Group) (ra rb : Ordering) → group_order order a f ≡ ra → group_order order b f ≡ rb
      → group_order order a b ≢ Equal
      → put_in order a (put_in order b fs) ≡ put_in order b (put_in order a fs)
      → put_in order a (by_order rb (b ∷ f ∷ fs) (b ∷ f ∷ fs) (f ∷ put_in order b fs))
      ≡ put_in order b (by_order ra (a ∷ f ∷ fs) (a ∷ f ∷ fs) (f ∷ put_in order a fs))
  swap_step a b f fs Less Less ea eb h rest = rw (ea, eb) (both_before a b (f ∷ fs) (group_order order a b) refl h)
  swap_step a b f fs Less Equal ea eb h rest = rw (ea, eb) (both_before a b (f ∷ fs) (group_order order a b) refl h)
  swap_step a b f fs Equal Less ea eb h rest = rw (ea, eb) (both_before a b (f ∷ fs) (group_order order a b) refl h)
  swap_step a b f fs Equal Equal ea eb h rest = rw (ea, eb) (both_before a b (f ∷ fs) (group_order order a b) refl h)
  swap_step a b f fs Less Greater ea eb h rest = rw (ea, eb, after a f b Less ea not_less eb) refl
  swap_step a b f fs Equal Greater ea eb h rest = rw (ea, eb, after a f b Equal ea not_equal eb) refl
  swap_step a b f fs Greater Less ea eb h rest = rw (ea, eb, after b f a Less eb not_less ea) refl
  swap_step a b f fs Greater Equal ea eb h rest = rw (ea, eb, after b f a Equal eb not_equal ea) refl
  swap_step a b f fs Greater Greater ea eb h rest = rw (ea, eb) (ap (λ l. f ∷ l) rest)

  swapped : (a b : Group) (l : List Group) → group_order order a b ≢ Equal
      → put_in order a (put_in order b l) ≡ put_in order b (put_in order a l)
  swapped a b [] h = both_before a b [] (group_order order a b) refl h
  swapped a b (f ∷ fs) h =
      swap_step a b f fs (group_order order a f) (group_order order b f) refl refl h (swapped a b fs h)

  -- ---- groups in order do not depend on how they were found

  new_head : (k : List Value) (v : List AggState) (e : Group) (es : List Group) → find key_order k (e ∷ es) ≡ None
      → eq_by_cmp key_order k e.0 ≡ false
  new_head k v e es none = by (eq_by_cmp key_order k e.0) refl none
    where
      by : (b : Bool) → eq_by_cmp key_order k e.0 ≡ b → cond b (Some e.1) (find key_order k es) ≡ None → eq_by_cmp key_order k e.0 ≡ false
      by true p q = cc
      by false p q = p

  new_rest : (k : List Value) (e : Group) (es : List Group) → find key_order k (e ∷ es) ≡ None → find key_order k es ≡ None
  new_rest k e es none = by (eq_by_cmp key_order k e.0) none
    where
      by : (b : Bool) → cond b (Some e.1) (find key_order k es) ≡ None → find key_order k es ≡ None
      by true q = cc
      by false q = q

  apart : (a b : Group) → eq_by_cmp key_order a.0 b.0 ≡ false → group_order order a b ≢ Equal
  apart a b h e = let t : eq_by_cmp key_order a.0 b.0 ≡ true = ap is_eq (tied_keys order a b e) in cc

  put_step : (k : List Value) (v : List AggState) (e : Group) (es : List Group) (r : Ordering) → key_order k e.0 ≡ r
      → find key_order k (e ∷ es) ≡ None
      → in_order order (put key_order k v es) ≡ put_in order (k, v) (in_order order es)
      → in_order order (by_order r ((k, v) ∷ e ∷ es) ((e.0, v) ∷ es) (e ∷ put key_order k v es))
      ≡ put_in order (k, v) (put_in order e (in_order order es))
  put_step k v e es Less is none rest = refl
  put_step k v e es Equal is none rest =
      let t : eq_by_cmp key_order k e.0 ≡ true = ap is_eq is in
      let f = new_head k v e es none in cc
  put_step k v e es Greater is none rest = ap (put_in order e) rest
      ∙ sym (swapped (k, v) e (in_order order es) (apart (k, v) e (new_head k v e es none)))

  put_new : (k : List Value) (v : List AggState) (es : List Group) → find key_order k es ≡ None
      → in_order order (put key_order k v es) ≡ put_in order (k, v) (in_order order es)
  put_new k v [] none = refl
  put_new k v (e ∷ es) none = put_step k v e es (key_order k e.0) refl none (put_new k v es (new_rest k e es none))

  absent : (k : List Value) (es : List Group) → AllByRecursion (λ y. key_eq k y ≡ false) (keys_of es) → find key_order k es ≡ None
  absent k [] h = refl
  absent k (e ∷ es) h = (λ i. cond ((sym (key_ties k e.0) ∙ h.0) i) (Some e.1) (find key_order k es)) ∙ absent k es h.1

  no_length : (es : List Group) → length es ≡ 0 → es ≡ []
  no_length [] e = refl
  no_length (x ∷ es) e = absurd (omega arith)

  no_entries : finite.entries (finite.empty {X = List AggState} {R = key_order}) ≡ []
  no_entries = no_length (finite.entries (finite.empty {X = List AggState} {R = key_order}))
      (sym (finite.len-entries (finite.empty {X = List AggState} {R = key_order})) ∙ finite.len-empty key_order (List AggState))

  -- groups of distinct keys, as they were found, and as the map has them
  pub found : (es : List Group) → IsDistinct key_eq (keys_of es)
      → in_order order (finite.entries (finite.from_entries {R = key_order} es)) ≡ in_order order es
  found [] d = ap (in_order order) no_entries
  found (e ∷ es) d =
      let rest = found es (IsDistinct-tail key_eq e.0 (keys_of es) d) in
      let m = finite.from_entries {R = key_order} es in
      let none : find key_order e.0 (finite.entries m) ≡ None = sym (finite.get-entries m e.0) ∙ finite.get-from_entries key_total es e.0
      ∙ absent e.0 es (IsDistinct-head key_eq e.0 (keys_of es) d) in
      ap (in_order order) (finite.entries-insert key_total m e.0 e.1) ∙ put_new e.0 e.1 (finite.entries m) none ∙ ap (put_in order e) rest

  -- ---- those that pass a test do not depend on it either

  module _ (p : Group → Bool) where
    turned : (a b : Bool) (x e : Group) (xs ys : List Group) → group_order order x e ≢ Equal
        → in_order order ys ≡ in_order order (cond b (x ∷ xs) xs)
        → in_order order (cond a (e ∷ ys) ys) ≡ in_order order (cond b (x ∷ cond a (e ∷ xs) xs) (cond a (e ∷ xs) xs))
    turned true true x e xs ys h rest = ap (put_in order e) rest ∙ sym (swapped x e (in_order order xs) h)
    turned true false x e xs ys h rest = ap (put_in order e) rest
    turned false true x e xs ys h rest = rest
    turned false false x e xs ys h rest = rest

    kept_step : (k : List Value) (v : List AggState) (e : Group) (es : List Group) (r : Ordering) → key_order k e.0 ≡ r
        → find key_order k (e ∷ es) ≡ None
        → in_order order (filter p (put key_order k v es)) ≡ in_order order (filter p ((k, v) ∷ es))
        → in_order order (filter p (by_order r ((k, v) ∷ e ∷ es) ((e.0, v) ∷ es) (e ∷ put key_order k v es)))
        ≡ in_order order (filter p ((k, v) ∷ e ∷ es))
    kept_step k v e es Less is none rest = refl
    kept_step k v e es Equal is none rest =
        let t : eq_by_cmp key_order k e.0 ≡ true = ap is_eq is in
        let f = new_head k v e es none in cc
    kept_step k v e es Greater is none rest =
        turned (p e) (p (k, v)) (k, v) e (filter p es) (filter p (put key_order k v es)) (apart (k, v) e (new_head k v e es none)) rest

    put_kept : (k : List Value) (v : List AggState) (es : List Group) → find key_order k es ≡ None
        → in_order order (filter p (put key_order k v es)) ≡ in_order order (filter p ((k, v) ∷ es))
    put_kept k v [] none = refl
    put_kept k v (e ∷ es) none = kept_step k v e es (key_order k e.0) refl none (put_kept k v es (new_rest k e es none))

    headed : (b : Bool) (e : Group) (xs ys : List Group) → in_order order xs ≡ in_order order ys → in_order order (cond b (e ∷ xs) xs) ≡ in_order order (cond b (e ∷ ys) ys)
    headed true e xs ys rest = ap (put_in order e) rest
    headed false e xs ys rest = rest

    pub found_kept : (es : List Group) → IsDistinct key_eq (keys_of es)
        → in_order order (filter p (finite.entries (finite.from_entries {R = key_order} es))) ≡ in_order order (filter p es)
    found_kept [] d = ap (λ l. in_order order (filter p l)) no_entries
    found_kept (e ∷ es) d =
        let rest = found_kept es (IsDistinct-tail key_eq e.0 (keys_of es) d) in
        let m = finite.from_entries {R = key_order} es in
        let none : find key_order e.0 (finite.entries m) ≡ None = sym (finite.get-entries m e.0) ∙ finite.get-from_entries key_total es e.0
        ∙ absent e.0 es (IsDistinct-head key_eq e.0 (keys_of es) d) in
        ap (λ l. in_order order (filter p l)) (finite.entries-insert key_total m e.0 e.1) ∙ put_kept e.0 e.1 (finite.entries m) none
        ∙ headed (p e) e (filter p (finite.entries m)) (filter p es) rest

  -- ---- groups in order are the same groups, in order

  put_permuted : (g : Group) (l : List Group) → IsPermutation (g ∷ l) (put_in order g l)
  put_permuted g [] = IsPermutation-refl (g ∷ [])
  put_permuted g (f ∷ fs) = by (group_order order g f) (put_permuted g fs)
    where
      by : (r : Ordering) → IsPermutation (g ∷ fs) (put_in order g fs)
          → IsPermutation (g ∷ f ∷ fs) (by_order r (g ∷ f ∷ fs) (g ∷ f ∷ fs) (f ∷ put_in order g fs))
      by Less rest = IsPermutation-refl (g ∷ f ∷ fs)
      by Equal rest = IsPermutation-refl (g ∷ f ∷ fs)
      by Greater rest = IsPermutation-trans (g ∷ f ∷ fs) (f ∷ g ∷ fs) (f ∷ put_in order g fs)
          (IsPermutation-sym (f ∷ g ∷ fs) (g ∷ f ∷ fs) (IsPermutation-middle (f ∷ []) g fs))
          (IsPermutation-cons f (g ∷ fs) (put_in order g fs) rest)

  pub permuted : (es : List Group) → IsPermutation es (in_order order es)
  permuted [] = IsPermutation-refl []
  permuted (e ∷ es) = IsPermutation-trans (e ∷ es) (e ∷ in_order order es) (put_in order e (in_order order es))
      (IsPermutation-cons e es (in_order order es) (permuted es)) (put_permuted e (in_order order es))

  -- the first of a list is not less than f
  abbrev Follows : Group → List Group → Type 0
  Follows f [] = Unit {0}
  Follows f (x ∷ xs) = is_lt (group_order order x f) ≡ false

  abbrev Ascends : List Group → Type 0
  Ascends [] = Unit {0}
  Ascends (x ∷ xs) = Follows x xs × Ascends xs

  not_before : (a b : Group) (r : Ordering) → group_order order a b ≡ r → r ≢ Greater → is_lt (group_order order b a) ≡ false
  not_before a b Less e h = ap is_lt (back b a Less e)
  not_before a b Equal e h = ap is_lt (back b a Equal e)
  not_before a b Greater e h = absurd (h refl)

  follows_put : (f g : Group) (l : List Group) → Follows f l → is_lt (group_order order g f) ≡ false → Follows f (put_in order g l)
  follows_put f g [] h k = k
  follows_put f g (x ∷ xs) h k = by (group_order order g x)
    where
      by : (r : Ordering) → Follows f (by_order r (g ∷ x ∷ xs) (g ∷ x ∷ xs) (x ∷ put_in order g xs))
      by Less = k
      by Equal = k
      by Greater = h

  put_ascends : (g : Group) (l : List Group) → Ascends l → Ascends (put_in order g l)
  put_ascends g [] h = (tt, tt)
  put_ascends g (f ∷ fs) h = by (group_order order g f) refl (put_ascends g fs h.1)
    where
      by : (r : Ordering) → group_order order g f ≡ r → Ascends (put_in order g fs)
          → Ascends (by_order r (g ∷ f ∷ fs) (g ∷ f ∷ fs) (f ∷ put_in order g fs))
      by Less e rest = (not_before g f Less e not_less, h)
      by Equal e rest = (not_before g f Equal e not_equal, h)
      by Greater e rest = (follows_put f g fs h.0 (ap is_lt e), rest)

  ascends : (es : List Group) → Ascends (in_order order es)
  ascends [] = tt
  ascends (e ∷ es) = put_ascends e (in_order order es) (ascends es)

  first_follows : (x : Group) (xs : List Group) (d : Group) → Follows x xs → 0 < length xs → is_lt (group_order order (get_or xs 0 d) x) ≡ false
  first_follows x [] d h k = absurd (omega arith)
  first_follows x (y ∷ ys) d h k = h

  to_sorted : (l : List Group) → Ascends l → (k : ℕ) (d : Group) → suc k < length l
      → is_lt (group_order order (get_or l (suc k) d) (get_or l k d)) ≡ false
  to_sorted [] h k d lt = absurd (omega arith)
  to_sorted (x ∷ xs) h zero d lt = first_follows x xs d h.0 (omega arith)
  to_sorted (x ∷ xs) h (suc k) d lt = to_sorted xs h.1 k d (omega arith)

  pub sorted : (es : List Group) → IsSorted (group_order order) (in_order order es)
  sorted es k d low lt = rw add-one (to_sorted (in_order order es) (ascends es) k d (omega arith))

  -- a list that is in order stays as it is
  from_sorted : (l : List Group) → IsSorted (group_order order) l → in_order order l ≡ l
  from_sorted [] h = refl
  from_sorted (x ∷ xs) h = ap (put_in order x) (from_sorted xs (λ k d low lt. later k d lt)) ∙ first x xs (λ d lt. h 0 d (omega arith) (omega arith))
    where
      later : (k : ℕ) (d : Group) → k + 1 < length xs → is_lt (group_order order (get_or xs (k + 1) d) (get_or xs k d)) ≡ false
      later k d lt =
          let e : suc k + 1 ≡ suc (k + 1) = omega arith in
          subst (λ n. is_lt (group_order order (get_or (x ∷ xs) n d) (get_or (x ∷ xs) (suc k) d)) ≡ false) e (h (suc k) d (omega arith) (omega arith))

      first : (x : Group) (xs : List Group) → ((d : Group) → 0 < length xs → is_lt (group_order order (get_or xs 0 d) x) ≡ false) → put_in order x xs ≡ x ∷ xs
      first x [] h = refl
      first x (y ∷ ys) h = by (group_order order x y) refl (h y (omega arith))
        where
          by : (r : Ordering) → group_order order x y ≡ r → is_lt (group_order order y x) ≡ false
              → by_order r (x ∷ y ∷ ys) (x ∷ y ∷ ys) (y ∷ put_in order x ys) ≡ x ∷ y ∷ ys
          by Less e h = refl
          by Equal e h = refl
          by Greater e h = let t : is_lt (group_order order y x) ≡ true = ap is_lt (back y x Greater e) in cc

  -- ---- a sorted list of the groups of a map is the one in order

  distinct_permuted : (es fs : List Group) → IsPermutation es fs → IsDistinct key_eq (keys_of es) → IsDistinct key_eq (keys_of fs)
  distinct_permuted es fs p d = IsDistinct-IsPermutation key_eq key_equiv.symm (keys_of es) (keys_of fs)
      (IsPermutation-map (λ (e : Group). e.0) es fs p) d

  same_at : (es fs : List Group) → IsPermutation es fs → IsDistinct key_eq (keys_of es) → (q : List Value) → lookup (key_eq q) fs ≡ lookup (key_eq q) es
  same_at es fs p d q = by (lookup (key_eq q) fs) (lookup (key_eq q) es) refl refl
    where
      by : (a b : Option (List AggState)) → lookup (key_eq q) fs ≡ a → lookup (key_eq q) es ≡ b → a ≡ b
      by None None s t = refl
      by (Some v) b s t = sym (lookup-from_Contains key_equiv q v es d (Contains-permutation fs es (q, v) (IsPermutation-sym es fs p) (Contains-from_lookup same_key q v fs s))) ∙ t
      by None (Some w) s t = sym s ∙ lookup-from_Contains key_equiv q w fs (distinct_permuted es fs p d) (Contains-permutation es fs (q, w) p (Contains-from_lookup same_key q w es t))

  same_groups : (es fs : List Group) → IsPermutation es fs → IsDistinct key_eq (keys_of es)
      → finite.from_entries {R = key_order} fs ≡ finite.from_entries {R = key_order} es
  same_groups es fs p d = finite.same_map key_total key_same _ _ (λ q. get_lookup fs q ∙ same_at es fs p d q ∙ sym (get_lookup es q))

  pub is_in_order : (es fs : List Group) → IsPermutation es fs → IsDistinct key_eq (keys_of es) → IsSorted (group_order order) fs
      → fs ≡ in_order order (finite.entries (finite.from_entries {R = key_order} es))
  is_in_order es fs p d s = sym (ap (λ (m : Groups). in_order order (finite.entries m)) (sym (same_groups es fs p d))
      ∙ found fs (distinct_permuted es fs p d) ∙ from_sorted fs s)

  -- and the list in order itself
  pub in_order_is : (es fs : List Group) → IsPermutation es fs → IsDistinct key_eq (keys_of es) → IsSorted (group_order order) fs → fs ≡ in_order order es
  in_order_is es fs p d s = is_in_order es fs p d s ∙ found es d
