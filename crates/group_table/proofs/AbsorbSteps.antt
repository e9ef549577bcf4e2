-- A table merged into another one, entry by entry.
use Rattle.std.proofs.Common.{◌≡◌, ◌≢◌, ◌∙◌, ℕ, ◌+◌, ◌<◌, ◌≤◌, ◌⊎◌, inl, inr, Bool, true, false, cond, List, [], ◌∷◌, ◌++◌, length, map, get_or, drop, slice_get, Option, Some, None, refl, sym, ap, subst, arith, is_some, length-append, unwrap_or}
use Rattle.std.proofs.lemmas.Map.Keys.{IsDistinct-head, IsDistinct-tail}
use Rattle.std.specs.FinMap as finite
use Rattle.std.specs.List.{AllByRecursion, IsDistinct}
use Rattle.std.specs.Map.{keys_of, lookup}
use Rattle.std.specs.Option.{option_map, option_map_or}
use Rattle.values.specs.declared.value.Value.{Value}
use Rattle.agg_laws.specs.declared.states.AggState.{AggState}
use Rattle.agg_laws.specs.Numbers.{most_values}
use Rattle.agg_laws.specs.Rows.{kinds_of, merged_rows, RowFits}
use Rattle.state_pool.specs.Pool.{Pool, Place, Slots, Writes, Takes, IsOut, held, kinds_at, quota_of, states_at}
use Rattle.group_table.specs.Groups.{Group, Groups, merged_in, with_entries, with_states}
use Rattle.group_table.specs.Kept.{groups_in, key_eq, IsGroup, IsTable}
use Rattle.group_table.specs.Pooled.{PooledTable, group_in, in_pool, IsSlotOf, HoldsAll, IsTableIn, IsBeside, AllFit, MergesAll, StaysIn, KeepsOthers, MergesIn, Starts, Finds, Places, slot_at, place_at, with_slots, has_slot, new_keys}
use Rattle.group_table.proofs.KeptLemmas.{key_total, key_equiv, key_ties, get_lookup}
use Rattle.group_table.proofs.NewKeys.{new_there, new_absent, new_same, init_same, drop_next}
use Rattle.group_table.proofs.PooledSteps.{Entries, AreOf, group_lookup, group_keys, lookup_push, counted}
use Rattle.group_table.proofs.PooledSteps as steps
use Rattle.group_table.proofs.SlotFrames as frames

-- ---- other keys

-- states merged into the group of one key leave that of another one
other_key : (g : Groups) (k q : List Value) (s : List AggState) → key_eq k q ≡ false → finite.get (merged_in g k s) q ≡ finite.get g q
other_key g k q s ne = finite.get-insert key_total g k (with_states g k s) q
    ∙ ap (λ b. cond b (Some (with_states g k s)) (finite.get g q)) (sym (key_ties q k) ∙ key_equiv.symm q k ∙ ne)

-- groups of other keys fit still
fits_still : (g : Groups) (k : List Value) (s : List AggState) (es : List Group) → AllByRecursion (λ q. key_eq k q ≡ false) (keys_of es)
    → AllFit g es → AllFit (merged_in g k s) es
fits_still g k s [] other fits = tt
fits_still g k s (e ∷ es) other fits = (
  subst (λ (o : Option (List AggState)). RowFits (option_map_or (λ own. merged_rows own e.1) o e.1) most_values) (sym (other_key g k e.0 s other.0)) fits.0,
  fits_still g k s es other.1 fits.1,
)

-- ---- how many groups there are of both

-- which keys groups have
abbrev get_there : Groups → List Value → Bool
get_there g q = is_some (finite.get g q)

there_still : (g : Groups) (k : List Value) (s : List AggState) (ks : List (List Value)) → AllByRecursion (λ q. key_eq k q ≡ false) ks
    → AllByRecursion (λ q. get_there (merged_in g k s) q ≡ get_there g q) ks
there_still g k s [] other = tt
there_still g k s (q ∷ ks) other = (ap is_some (other_key g k q s other.0), there_still g k s ks other.1)

len_entries : (g : Groups) (es : List Group) → IsDistinct key_eq (keys_of es)
    → finite.len (with_entries g es) ≡ finite.len g + length (new_keys (get_there g) (keys_of es))
len_entries g [] d = omega arith
len_entries g (e ∷ es) d = by (get_there g e.0) refl
    (len_entries (merged_in g e.0 e.1) es (IsDistinct-tail key_eq e.0 (keys_of es) d)
    ∙ ap (λ l. finite.len (merged_in g e.0 e.1) + length l) (new_same (get_there (merged_in g e.0 e.1)) (get_there g) (keys_of es)
    (there_still g e.0 e.1 (keys_of es) (IsDistinct-head key_eq e.0 (keys_of es) d))))
  where
    own : finite.len (merged_in g e.0 e.1) ≡ cond (get_there g e.0) (finite.len g) (finite.len g + 1)
    own = finite.len-insert key_total g e.0 (with_states g e.0 e.1)

    by : (b : Bool) → get_there g e.0 ≡ b
        → finite.len (with_entries (merged_in g e.0 e.1) es) ≡ finite.len (merged_in g e.0 e.1) + length (new_keys (get_there g) (keys_of es))
        → finite.len (with_entries (merged_in g e.0 e.1) es) ≡ finite.len g + length (new_keys (get_there g) (e.0 ∷ keys_of es))
    by true t rest =
        let same = ap length (new_there (get_there g) e.0 (keys_of es) t) in
        let one = own ∙ ap (λ b. cond b (finite.len g) (finite.len g + 1)) t in
        omega (arith, rest, same, one)
    by false t rest =
        let more = ap length (new_absent (get_there g) e.0 (keys_of es) t) ∙ length-append (new_keys (get_there g) (keys_of es)) (e.0 ∷ []) in
        let one = own ∙ ap (λ b. cond b (finite.len g) (finite.len g + 1)) t in
        omega (arith, rest, more, one)

-- a key has a group where it has a slot
slot_there : (t : PooledTable) (pool : Pool) (q : List Value) → get_there (groups_in (in_pool t pool)) q ≡ has_slot t.slots q
slot_there t pool q = ap is_some (get_lookup (map (group_in pool) t.slots) q ∙ group_lookup pool q t.slots) ∙ by (lookup (key_eq q) t.slots)
  where
    by : (o : Option Place) → is_some (option_map (states_at pool) o) ≡ is_some o
    by None = refl
    by (Some s) = refl

all_keys : (P : List Value → Type 0) (ks : List (List Value)) → ((k : List Value) → P k) → AllByRecursion P ks
all_keys P [] h = tt
all_keys P (k ∷ ks) h = (h k, all_keys P ks h)

pub len_both : (t : PooledTable) (pool : Pool) (es : Entries) → IsTableIn t pool → IsDistinct key_eq (keys_of es)
    → finite.len (with_entries (groups_in (in_pool t pool)) (map (group_in pool) es)) ≡ length t.slots + length (new_keys (has_slot t.slots) (keys_of es))
len_both t pool es table once =
    len_entries (groups_in (in_pool t pool)) (map (group_in pool) es) (subst (IsDistinct key_eq) (sym (group_keys pool es)) once)
    ∙ (λ i. counted t pool table i + length (new_keys (get_there (groups_in (in_pool t pool))) (group_keys pool es i)))
    ∙ ap (λ l. length t.slots + length l) (new_same (get_there (groups_in (in_pool t pool))) (has_slot t.slots) (keys_of es)
    (all_keys (λ q. get_there (groups_in (in_pool t pool)) q ≡ has_slot t.slots q) (keys_of es) (slot_there t pool)))

pub count_both : (t from : PooledTable) (pool : Pool) → IsTableIn t pool → IsBeside t pool from
    → finite.len (with_entries (groups_in (in_pool t pool)) (in_pool from pool).groups) ≡ length t.slots + length (new_keys (has_slot t.slots) (keys_of from.slots))
count_both t from pool table beside = len_both t pool from.slots table (subst (IsDistinct key_eq) (group_keys pool from.slots) beside.table.is_table.once)

-- ---- what another owner holds

module _ (mine owner : ℕ) (apart : owner ≢ mine) (old new : Pool) (keeps : KeepsOthers mine old new) where
  pub other_states : (slot : Place) → slot.owner ≡ owner → states_at new slot ≡ states_at old slot
  other_states slot is = ap (λ (m : Slots). unwrap_or (finite.get m slot.number) []) (keeps.others slot.owner (λ e. apart (sym is ∙ e)))

  pub other_slot : (slot : Place) → IsSlotOf old owner slot → IsSlotOf new owner slot
  other_slot slot s = record {
    owned = s.owned;
    out = ap (λ (m : Slots). finite.contains_key m slot.number) (keeps.others slot.owner (λ e. apart (sym s.owned ∙ e))) ∙ s.out;
  }

  pub other_each : (es : Entries) → AreOf old owner es → AreOf new owner es
  other_each [] each = tt
  other_each (e ∷ es) each = (other_slot e.1 each.0, other_each es each.1)

  pub other_groups : (es : Entries) → AreOf old owner es → map (group_in new) es ≡ map (group_in old) es
  other_groups [] each = refl
  other_groups (e ∷ es) each = λ i. (e.0, other_states e.1 each.0.owned i) ∷ other_groups es each.1 i

-- ---- what is left to merge

pub record Left (t : PooledTable) (pool : Pool) (owner : ℕ) (copies : List (List Value)) (rest : Entries) (ends : Groups) : Type 0 where
  pub table : IsTableIn t pool
  pub ends_are : with_entries (groups_in (in_pool t pool)) (map (group_in pool) rest) ≡ ends
  pub fits : AllFit (groups_in (in_pool t pool)) (map (group_in pool) rest)
  pub each : AreOf pool owner rest
  pub groups : AllByRecursion (IsGroup t.columns (kinds_at pool t.owner)) (map (group_in pool) rest)
  pub once : IsDistinct key_eq (keys_of rest)
  pub copied : copies ≡ new_keys (has_slot t.slots) (keys_of rest)
  pub room : length copies + length t.slots ≤ t.most

pub left_all : (t from : PooledTable) (pool : Pool) (copies : List (List Value)) → IsTableIn t pool → IsBeside t pool from
    → AllFit (groups_in (in_pool t pool)) (in_pool from pool).groups → copies ≡ new_keys (has_slot t.slots) (keys_of from.slots)
    → length copies + length t.slots ≤ t.most
    → Left t pool from.owner copies from.slots (with_entries (groups_in (in_pool t pool)) (in_pool from pool).groups)
left_all t from pool copies table beside fits copied room = record {
  table = table;
  ends_are = refl;
  fits = fits;
  each = beside.table.holds.each;
  groups = subst (λ n. AllByRecursion (IsGroup n (kinds_at pool t.owner)) (map (group_in pool) from.slots)) beside.columns
      (subst (λ ks. AllByRecursion (IsGroup from.columns ks) (map (group_in pool) from.slots)) beside.kinds beside.table.is_table.each);
  once = subst (IsDistinct key_eq) (group_keys pool from.slots) beside.table.is_table.once;
  copied = copied;
  room = room;
}

-- the next entry
pub left_at : (t : PooledTable) (pool : Pool) (owner : ℕ) (copies : List (List Value)) (es : Entries) (at : ℕ) (key : List Value) (slot : Place) (ends : Groups)
    → Left t pool owner copies (drop at es) ends → Some (key, slot) ≡ slice_get es at → Left t pool owner copies ((key, slot) ∷ drop (at + 1) es) ends
left_at t pool owner copies es at key slot ends left is = subst (λ (rest : Entries). Left t pool owner copies rest ends) (drop_next es at (key, slot) is) left

module _ (t : PooledTable) (pool : Pool) (owner : ℕ) (copies : List (List Value)) (e : List Value × Place) (rest : Entries) (ends : Groups)
    (left : Left t pool owner copies (e ∷ rest) ends) (apart : owner ≢ t.owner) where
  pub next_copy : has_slot t.slots e.0 ≡ false → (front : List (List Value)) × (copies ≡ front ++ e.0 ∷ [])
  next_copy none = (new_keys (has_slot t.slots) (keys_of rest), left.copied ∙ new_absent (has_slot t.slots) e.0 (keys_of rest) none)

  pub free_slots : length copies + held pool t.owner ≤ quota_of pool t.owner
  free_slots = omega (arith, left.room, left.table.holds.all, left.table.holds.quota)

  states : List AggState
  states = states_at pool e.1

  module _ (at : ℕ) (new_slots : Entries) (mid : Pool) (left_copies : List (List Value))
      (places : Places e.0 at t.owner t.slots new_slots pool mid copies left_copies) where
    abbrev pub grown : PooledTable
    grown = with_slots t new_slots

    abbrev own : Place
    own = place_at new_slots at

    finds : Finds e.0 at t pool grown mid
    finds = record { within = places.within; found = by places.found }
      where
        by : ((lookup (key_eq e.0) t.slots ≡ Some own) × (new_slots ≡ t.slots) × (mid ≡ pool) × (left_copies ≡ copies))
            ⊎ ((lookup (key_eq e.0) t.slots ≡ None) × (new_slots ≡ t.slots ++ (e.0, own) ∷ []) × IsDistinct key_eq (keys_of new_slots)
            × Takes t.owner own pool mid × (copies ≡ left_copies ++ e.0 ∷ []))
            → ((lookup (key_eq e.0) t.slots ≡ Some (slot_at grown at)) × (grown ≡ t) × (mid ≡ pool)) ⊎ Starts e.0 (slot_at grown at) t pool grown mid
        by (inl h) = inl (h.0, ap (with_slots t) h.1, h.2)
        by (inr h) = inr (record {
          absent = h.0;
          room = omega (arith, left.room, ap length h.4, length-append left_copies (e.0 ∷ []));
          table = ap (with_slots t) h.1;
          once = subst (λ es. IsDistinct key_eq (keys_of es)) h.1 h.2;
          takes = h.3;
        })

    placed_keeps : KeepsOthers t.owner pool mid
    placed_keeps = by finds.found
      where
        by : ((lookup (key_eq e.0) t.slots ≡ Some (slot_at grown at)) × (grown ≡ t) × (mid ≡ pool)) ⊎ Starts e.0 (slot_at grown at) t pool grown mid → KeepsOthers t.owner pool mid
        by (inl h) = subst (λ p. KeepsOthers t.owner pool p) (sym h.2) (frames.keeps_same t.owner pool)
        by (inr s) = frames.keeps_changed t.owner _ pool mid s.takes.changes

    ready : steps.Ready t grown pool mid left.table e.0 at finds (states_at pool e.1) left.groups.0.states left.fits.0
    ready = steps.ready t grown pool mid left.table e.0 at finds (states_at pool e.1) left.groups.0.states left.fits.0

    its_states : states_at mid e.1 ≡ states_at pool e.1
    its_states = other_states t.owner owner apart pool mid placed_keeps e.1 left.each.0.owned

    pub own_out : IsOut mid own
    own_out = ready.out

    pub its_out : IsOut mid e.1
    its_out = (other_slot t.owner owner apart pool mid placed_keeps e.1 left.each.0).out

    pub slots_apart : e.1.owner ≢ own.owner
    slots_apart is = apart (sym left.each.0.owned ∙ is ∙ ready.owner)

    pub same_kinds : kinds_of (states_at mid own) ≡ kinds_of (states_at mid e.1)
    same_kinds = ready.kinds ∙ sym left.groups.0.states ∙ ap kinds_of (sym its_states)

    pub both_fit : RowFits (merged_rows (states_at mid own) (states_at mid e.1)) most_values
    both_fit = subst (λ s. RowFits (merged_rows (states_at mid own) s) most_values) (sym its_states) ready.room

    module _ (new : Pool) (writes : Writes own (merged_rows (states_at mid own) (states_at mid e.1)) mid new) where
      merged : MergesIn e.0 (states_at pool e.1) t pool grown new
      merged = steps.row_merged t grown pool mid left.table e.0 at finds (states_at pool e.1) left.groups.0.states left.fits.0 new
          (subst (λ s. Writes own (merged_rows (states_at mid own) s) mid new) its_states writes) left.groups.0.key left.groups.0.values

      pub stays_next : StaysIn t pool grown new
      stays_next = merged.stays

      keeps : KeepsOthers t.owner pool new
      keeps = merged.stays.keeps

      rest_groups : map (group_in new) rest ≡ map (group_in pool) rest
      rest_groups = other_groups t.owner owner apart pool new keeps rest left.each.1

      others : AllByRecursion (λ q. key_eq e.0 q ≡ false) (keys_of rest)
      others = IsDistinct-head key_eq e.0 (keys_of rest) left.once

      copied_next : ((lookup (key_eq e.0) t.slots ≡ Some own) × (new_slots ≡ t.slots) × (mid ≡ pool) × (left_copies ≡ copies))
          ⊎ ((lookup (key_eq e.0) t.slots ≡ None) × (new_slots ≡ t.slots ++ (e.0, own) ∷ []) × IsDistinct key_eq (keys_of new_slots)
          × Takes t.owner own pool mid × (copies ≡ left_copies ++ e.0 ∷ []))
          → (left_copies ≡ new_keys (has_slot new_slots) (keys_of rest)) × (length left_copies + length new_slots ≤ t.most)
      copied_next (inl h) = (
        h.3 ∙ left.copied ∙ new_there (has_slot t.slots) e.0 (keys_of rest) (ap is_some h.0)
            ∙ ap (λ es. new_keys (has_slot es) (keys_of rest)) (sym h.1),
        omega (arith, left.room, ap length h.3, ap length h.1),
      )
      copied_next (inr h) = (
        init_same left_copies (new_keys (has_slot t.slots) (keys_of rest)) e.0 e.0
            (sym h.4 ∙ left.copied ∙ new_absent (has_slot t.slots) e.0 (keys_of rest) (ap is_some h.0))
            ∙ new_same (has_slot t.slots) (has_slot new_slots) (keys_of rest) (still (keys_of rest) others),
        omega (arith, left.room, ap length h.4, length-append left_copies (e.0 ∷ []), ap length h.1, length-append t.slots ((e.0, own) ∷ [])),
      )
        where
          still : (ks : List (List Value)) → AllByRecursion (λ q. key_eq e.0 q ≡ false) ks → AllByRecursion (λ q. has_slot t.slots q ≡ has_slot new_slots q) ks
          still [] other = tt
          still (q ∷ ks) other = (
            sym (ap (λ es. has_slot es q) h.1 ∙ ap is_some (lookup_push t.slots e.0 own q h.0
                ∙ ap (λ b. cond b (Some own) (lookup (key_eq q) t.slots)) other.0)),
            still ks other.1,
          )

      pub left_next : Left grown new owner left_copies rest ends
      left_next = record {
        table = merged.stays.table;
        ends_are = (λ i. with_entries (merged.merges.groups i) (rest_groups i)) ∙ left.ends_are;
        fits = subst (λ g. AllFit g (map (group_in new) rest)) (sym merged.merges.groups)
            (subst (AllFit (merged_in (groups_in (in_pool t pool)) e.0 (states_at pool e.1))) (sym rest_groups)
            (fits_still (groups_in (in_pool t pool)) e.0 (states_at pool e.1) (map (group_in pool) rest)
            (subst (AllByRecursion (λ q. key_eq e.0 q ≡ false)) (sym (group_keys pool rest)) others) left.fits.1));
        each = other_each t.owner owner apart pool new keeps rest left.each.1;
        groups = subst (λ ks. AllByRecursion (IsGroup t.columns ks) (map (group_in new) rest)) (sym merged.merges.kinds)
            (subst (AllByRecursion (IsGroup t.columns (kinds_at pool t.owner))) (sym rest_groups) left.groups.1);
        once = IsDistinct-tail key_eq e.0 (keys_of rest) left.once;
        copied = (copied_next places.found).0;
        room = (copied_next places.found).1;
      }

-- all is merged
pub merges_all : (t u : PooledTable) (old new : Pool) (owner : ℕ) (copies : List (List Value)) (rest : Entries) (groups : List Group)
    → Left u new owner copies rest (with_entries (groups_in (in_pool t old)) groups) → rest ≡ [] → u.columns ≡ t.columns → u.most ≡ t.most
    → StaysIn t old u new → MergesAll groups (in_pool t old) (in_pool u new)
merges_all t u old new owner copies rest groups left none columns most stays = record {
  columns = columns;
  kinds = ap (kinds_at new) stays.owner ∙ ap (λ kss. get_or kss t.owner []) stays.keeps.kinds;
  most = most;
  groups_are = ap (λ (es : Entries). with_entries (groups_in (in_pool u new)) (map (group_in new) es)) (sym none) ∙ left.ends_are;
}

-- ---- the other table

-- what another owner's table keeps in the pool is as it was
pub still_beside : (t u from : PooledTable) (old new : Pool) → IsBeside t old from → StaysIn t old u new → u.columns ≡ t.columns → IsBeside u new from
still_beside t u from old new beside stays columns = record {
  table = record { holds = holds; is_table = subst IsTable (sym same) beside.table.is_table };
  apart = λ is. beside.apart (is ∙ stays.owner);
  columns = beside.columns ∙ sym columns;
  kinds = kinds_still from.owner ∙ beside.kinds ∙ sym (kinds_still t.owner) ∙ ap (kinds_at new) (sym stays.owner);
}
  where
    kinds_still : (owner : ℕ) → kinds_at new owner ≡ kinds_at old owner
    kinds_still owner = ap (λ kss. get_or kss owner []) stays.keeps.kinds

    holds : HoldsAll from new
    holds = record {
      known = subst (λ (qs : List ℕ). from.owner < length qs) (sym stays.keeps.quotas) beside.table.holds.known;
      quota = beside.table.holds.quota ∙ sym (ap (λ qs. get_or qs from.owner 0) stays.keeps.quotas);
      each = other_each t.owner from.owner beside.apart old new stays.keeps from.slots beside.table.holds.each;
      apart = beside.table.holds.apart;
      all = beside.table.holds.all ∙ ap finite.len (sym (stays.keeps.others from.owner beside.apart));
    }

    same : in_pool from new ≡ in_pool from old
    same = λ i. record {
      columns = from.columns;
      kinds = kinds_still from.owner i;
      most = from.most;
      groups = other_groups t.owner from.owner beside.apart old new stays.keeps from.slots beside.table.holds.each i;
    }
