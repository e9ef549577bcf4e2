-- The ids of rows in a star-tree: the places of their values among the distinct ones of a column.
use Rattle.std.proofs.Common.{◌≡◌, ◌∙◌, ◌<◌, ◌≤◌, ◌||◌, ℕ, zero, suc, Bool, true, false, All, List, [], ◌∷◌, length, map, get_or, Some, refl, sym, ap, subst, arith}
use Rattle.std.specs.Prelude.{pos, slice_get, if◌then◌else◌}
use Rattle.std.specs.Ordering.{MatchOrdering, match_ordering, nat_cmp, ordering_reverse}
use Rattle.std.specs.FinMap.Entries.{by_order}
use Rattle.std.specs.declared.cmp.Ordering.{Ordering}
use Rattle.std.specs.declared.cmp.Ordering.TheVariants.{Less, Equal, Greater}
use Rattle.std.proofs.lemmas.Bool.{false≢true}
use Rattle.std.proofs.lemmas.Cmp.{ranked, tied_itself}
use Rattle.std.proofs.lemmas.List.{get_or-map, length-map}
use Rattle.std.proofs.lemmas.List.Elements.{All-head, All-tail}
use Rattle.std.proofs.lemmas.Map.Keys.{Less-from_sorted}
use Rattle.std.proofs.lemmas.Option.{get_or_from_slice_get, slice_get_within}
use Rattle.values.specs.declared.value.Value.{Value}
use Rattle.values.specs.declared.value.Value.TheVariants.{Whole}
use Rattle.values.specs.Order.{value_eq, value_order}
use Rattle.values.specs.Order.Laws.{value_eq-equiv, value_order-total}
use Rattle.values.specs.Tests.{is_member}
use Rattle.values.proofs.Bounds.{same_value}
use Rattle.agg_laws.specs.declared.states.AggState.{AggState}
use Rattle.state_columns.specs.Docs.{HaveIds}
use Rattle.agg_laws.specs.Merged.{Merged, add, rekey}
use Rattle.star_tree.specs.NodeRules.{AreCounted, count_at}
use Rattle.agg_laws.specs.Rows.{merged_rows}
use Rattle.agg_laws.specs.Tree.{dim, ids_at, star}
use Rattle.value_ids.specs.Dictionary.{Ascends, distinct, put_in}
use Rattle.value_ids.proofs.DistinctLemmas.{distinct_ascends, distinct_members}
use Rattle.table_schema.specs.declared.settings.TreeSetting.{TreeSetting}
use Rattle.segment_file.specs.Columns.{count_of, place_of, values_in}
use Rattle.segment_file.specs.Ordered.{value_in}
use Rattle.segment_file.specs.Trees.{documents, id_in}
use Rattle.segment_file.proofs.Tails.{unmapped}
use Rattle.segment_file.proofs.ImageRows.{few_values, members_all, not_true}
use Rattle.segment_file.proofs.TreeRows.{made}
use Rattle.segment_reads.specs.Docs.{field_of}

-- ---- an id leads back to its value

place_found : (w : Value) (ws : List Value) (v : Value) (same : Bool) → value_eq w v ≡ same
    → (value_eq v w ≡ true → same ≡ true) → is_member (w ∷ ws) v ≡ true
    → (is_member ws v ≡ true → slice_get ws (place_of ws v) ≡ Some v)
    → slice_get (w ∷ ws) (if same then 0 else suc (place_of ws v)) ≡ Some v
place_found w ws v true e turn is rest = ap Some (same_value w v e)
place_found w ws v false e turn is rest =
    let other : value_eq v w ≡ false = not_true (value_eq v w) (λ x. false≢true (turn x)) in
    rest (subst (λ b. (b || is_member ws v) ≡ true) other is)

place_at : (vs : List Value) (v : Value) → is_member vs v ≡ true
    → slice_get vs (place_of vs v) ≡ Some v
place_at [] v is = absurd (false≢true is)
place_at (w ∷ ws) v is = place_found w ws v (value_eq w v) refl
    (λ e. sym (value_eq-equiv.symm v w) ∙ e) is (place_at ws v)

-- a row's id in each column leads back to its value there
abbrev pub IsPlaced : List (List Value) → List Value → Type 0
IsPlaced os row = (c : ℕ) → slice_get (distinct (values_in c os)) (id_in os row c)
    ≡ Some (value_in c row)

pub all_placed : (os : List (List Value)) → All (IsPlaced os) os
all_placed os = λ k d lt c.
    (let vs : List Value = values_in c os in
    let P : Value → Type 0 = λ v. slice_get (distinct vs) (place_of (distinct vs) v) ≡ Some v in
    unmapped P (value_in c) os
    (members_all P vs (distinct vs) (λ v is. distinct_members v vs ∙ is) (place_at (distinct vs)))
    k d lt)

-- ---- the documents of rows

pub have_ids : (os : List (List Value)) (tree : TreeSetting) (rs : List (List Value))
    → HaveIds (length tree.split) (made os tree rs)
have_ids os tree [] = tt
have_ids os tree (r ∷ rs) = (length-map tree.split (id_in os r), have_ids os tree rs)

-- the id of a row in a split dimension
id_at : (os : List (List Value)) (row : List Value) (split : List ℕ) (d : ℕ) → d < length split
    → dim d (map (id_in os row) split) ≡ id_in os row (field_of split d)
id_at os row split d lt = get_or-map (id_in os row) split d 0 star lt

placed_below : (os : List (List Value)) (row : List Value) (split : List ℕ) (d : ℕ)
    → d < length split → IsPlaced os row
    → dim d (map (id_in os row) split) < count_at (map (count_of os) split) d
placed_below os row split d lt placed =
    let c = field_of split d in
    let below = slice_get_within (distinct (values_in c os)) (id_in os row c) (value_in c row)
    (placed c) in
    omega (arith, below, id_at os row split d lt, get_or-map (count_of os) split d 0 0 lt)

pub are_counted : (os : List (List Value)) (tree : TreeSetting) (rs : List (List Value))
    → All (IsPlaced os) rs
    → AreCounted (length tree.split) (map (count_of os) tree.split) (made os tree rs)
are_counted os tree [] placed = tt
are_counted os tree (r ∷ rs) placed = (
  (λ d lt. placed_below os r tree.split d lt (All-head (IsPlaced os) r rs placed)),
  are_counted os tree rs (All-tail (IsPlaced os) r rs placed),
)

pub few_counts : (os : List (List Value)) (split : List ℕ) (d : ℕ) → length os ≤ 1048576
    → count_at (map (count_of os) split) d ≤ star
few_counts os [] d at_most = omega arith
few_counts os (c ∷ split) zero at_most = omega (arith, at_most, few_values os c)
few_counts os (c ∷ split) (suc d) at_most = few_counts os split d at_most

-- ---- the ids of a dimension, ascending, are those of the distinct values

-- places in an ascending list are in the order of its values
order_same : (vs : List Value) (k j : ℕ) (v : Value) → Ascends vs → k < length vs → j < length vs
    → value_order (get_or vs k v) (get_or vs j v) ≡ nat_cmp k j
order_same vs k j v up lk lj = by (nat_cmp k j) (ranked k j (nat_cmp k j) refl)
  where
    by : (o : Ordering) → MatchOrdering o (k < j) (k ≡ j) (j < k)
        → value_order (get_or vs k v) (get_or vs j v) ≡ o
    by Less lt = Less-from_sorted value_order vs k j v up lt lj
    by Equal e = ap (λ n. value_order (get_or vs k v) (get_or vs n v)) (sym e)
        ∙ tied_itself value_order-total (get_or vs k v)
    by Greater lt = value_order-total.antisymm (get_or vs k v) (get_or vs j v)
        ∙ ap ordering_reverse (Less-from_sorted value_order vs j k v up lt lk)

-- the keys are places
abbrev KeysBelow : {S : Type 0} → ℕ → List (ℕ × S) → Type 0
KeysBelow n [] = Unit {0}
KeysBelow n (e ∷ es) = (e.0 < n) × KeysBelow n es

module _ {S : Type 0} (join : S → S → S) (vs : List Value) (up : Ascends vs) where
  abbrev at : ℕ → Value
  at id = get_or vs id (Whole (pos 0))

  abbrev keys : List (ℕ × S) → List ℕ
  keys es = map (λ e. e.0) es

  below_more : (k : ℕ) (s : S) (es : List (ℕ × S)) → k < length vs → KeysBelow (length vs) es
      → KeysBelow (length vs) (add nat_cmp join k s es)
  below_more k s [] lt h = (lt, tt)
  below_more k s (e ∷ es) lt h =
      elim (nat_cmp k e.0) as (λ o. KeysBelow (length vs) (by_order o ((k, s) ∷ e ∷ es)
      ((e.0, join s e.1) ∷ es) (e ∷ add nat_cmp join k s es))) [
        | Less ↦ (lt, h)
        | Equal ↦ h
        | Greater ↦ (h.0, below_more k s es lt h.1)
      ]

  -- a place that is added is a value that is put in
  add_more : (k : ℕ) (s : S) (es : List (ℕ × S)) → k < length vs → KeysBelow (length vs) es
      → map at (keys (add nat_cmp join k s es)) ≡ put_in (at k) (map at (keys es))
  add_more k s [] lt h = refl
  add_more k s (e ∷ es) lt h =
      by (nat_cmp k e.0) (add_more k s es lt h.1)
      ∙ ap (λ o. match_ordering o (at k ∷ at e.0 ∷ map at (keys es)) (at e.0 ∷ map at (keys es))
      (at e.0 ∷ put_in (at k) (map at (keys es))))
      (sym (order_same vs k e.0 (Whole (pos 0)) up lt h.0))
    where
      by : (o : Ordering)
          → map at (keys (add nat_cmp join k s es)) ≡ put_in (at k) (map at (keys es))
          → map at (keys (by_order o ((k, s) ∷ e ∷ es) ((e.0, join s e.1) ∷ es)
          (e ∷ add nat_cmp join k s es)))
          ≡ match_ordering o (at k ∷ at e.0 ∷ map at (keys es)) (at e.0 ∷ map at (keys es))
          (at e.0 ∷ put_in (at k) (map at (keys es)))
      by Less more = refl
      by Equal more = refl
      by Greater more = ap (λ (ws : List Value). at e.0 ∷ ws) more

module _ (os : List (List Value)) (tree : TreeSetting) (d : ℕ) (lt : d < length tree.split) where
  abbrev column : ℕ
  column = field_of tree.split d

  abbrev all : List Value
  all = distinct (values_in column os)

  abbrev entries : List (List Value) → List (ℕ × List AggState)
  entries rs = Merged nat_cmp merged_rows (rekey (dim d) (made os tree rs))

  -- a row's place
  here : (row : List Value) → IsPlaced os row
      → (dim d (map (id_in os row) tree.split) < length all)
      × (get_or all (dim d (map (id_in os row) tree.split)) (Whole (pos 0))
      ≡ value_in column row)
  here row placed =
      let id = id_at os row tree.split d lt in
      let there = placed column in
      let below = slice_get_within all (id_in os row column) (value_in column row) there in (
        omega (arith, id, below),
        ap (λ n. get_or all n (Whole (pos 0))) id
            ∙ get_or_from_slice_get all (id_in os row column) (value_in column row) (Whole (pos 0))
            there,
      )

  keys_below : (rs : List (List Value)) → All (IsPlaced os) rs → KeysBelow (length all) (entries rs)
  keys_below [] placed = tt
  keys_below (r ∷ rs) placed =
      below_more merged_rows all (distinct_ascends (values_in column os))
      (dim d (map (id_in os r) tree.split)) _ (entries rs)
      (here r (All-head (IsPlaced os) r rs placed)).0
      (keys_below rs (All-tail (IsPlaced os) r rs placed))

  values_of_ids : (rs : List (List Value)) → All (IsPlaced os) rs
      → map (λ id. get_or all id (Whole (pos 0))) (ids_at merged_rows d (made os tree rs))
      ≡ distinct (values_in column rs)
  values_of_ids [] placed = refl
  values_of_ids (r ∷ rs) placed =
      let own = here r (All-head (IsPlaced os) r rs placed) in
      let rest = All-tail (IsPlaced os) r rs placed in
      add_more merged_rows all (distinct_ascends (values_in column os))
      (dim d (map (id_in os r) tree.split)) _ (entries rs) own.0 (keys_below rs rest)
      ∙ (λ i. put_in (own.1 i) (values_of_ids rs rest i))

  -- the ids of the documents of all rows stand for the distinct values, in their order
  pub ids_are : map (λ id. get_or all id (Whole (pos 0)))
      (ids_at merged_rows d (documents os tree)) ≡ all
  ids_are = values_of_ids os (all_placed os)
