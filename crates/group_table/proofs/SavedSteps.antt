-- The states of groups copied one after the other into a list, and put back from there.
use Rattle.std.proofs.Common.{◌≡◌, ◌≢◌, ◌∙◌, ℕ, zero, suc, ◌+◌, ◌-◌, ◌*◌, ◌/◌, ◌<◌, ◌≤◌, true, false, cond, nat_eq, List, [], ◌∷◌, ◌++◌, length, map, get_or, take, drop, slice_get, Option, Some, None, refl, sym, ap, subst, arith, is_some, unwrap_or, length-append, length-drop, append-nil, append_assoc}
use Rattle.std.proofs.lemmas.List.{map-append, length-map, length-take-le, take_all, flat_map_more}
use Rattle.std.proofs.lemmas.List.Folds.{flat_map-map}
use Rattle.std.proofs.lemmas.Nat.{mul-le}
use Rattle.std.proofs.Math.Nat.{mul-div_cancel_left, zero-mul}
use Rattle.std.proofs.Math.Seq.{take-add}
use native.Mathlib.Nat.{suc-mul}
use Rattle.std.specs.FinMap as finite
use Rattle.std.specs.Cmp.{nat_cmp_total}
use Rattle.std.specs.List.{AllByRecursion, IsDistinct, flat_map}
use Rattle.values.specs.declared.value.Value.{Value}
use Rattle.agg_laws.specs.declared.states.AggState.{AggState}
use Rattle.state_pool.specs.Pool.{Pool, Place, Slots, GivesBack, Writes, IsOut, held, kinds_at, slots_of, states_at}
use Rattle.state_pool.proofs.SlotLemmas.{gone_there, same_slots, none_some}
use Rattle.group_table.specs.Pooled.{PooledTable, IsSlotOf, HoldsAll, KeepsOthers, Extends, place_at, with_slots}
use Rattle.group_table.specs.Saved.{HasSaved}
use Rattle.group_table.proofs.NewKeys.{place_get}
use Rattle.group_table.proofs.PooledSteps.{Entries, slots_in, same_numbers}
use Rattle.group_table.proofs.SlotFrames as frames

-- ---- the slots of an owner

abbrev pub places : List (List Value × Place) → List Place
places es = map (λ e. e.1) es

abbrev numbers : List Place → List ℕ
numbers ss = map (λ (s : Place). s.number) ss

-- the slots are all that the owner holds, each once
pub record AreHeld (pool : Pool) (owner : ℕ) (slots : List Place) : Type 0 where
  pub each : AllByRecursion (IsSlotOf pool owner) slots
  pub apart : IsDistinct nat_eq (map (λ slot. slot.number) slots)
  pub all : length slots ≡ held pool owner

pub table_held : (t : PooledTable) (pool : Pool) → HoldsAll t pool → AreHeld pool t.owner (places t.slots)
table_held t pool h = record {
  each = slots_in (IsSlotOf pool t.owner) t.slots h.each;
  apart = subst (IsDistinct nat_eq) (sym (same_numbers t.slots)) h.apart;
  all = length-map t.slots (λ e. e.1) ∙ h.all;
}

each_place : (P Q : Place → Type 0) → ((s : Place) → P s → Q s) → (ss : List Place) → AllByRecursion P ss → AllByRecursion Q ss
each_place P Q f [] h = tt
each_place P Q f (s ∷ ss) h = (f s h.0, each_place P Q f ss h.1)

init_place : (P : Place → Type 0) (ss : List Place) (s : Place) → AllByRecursion P (ss ++ s ∷ []) → AllByRecursion P ss × P s
init_place P [] s h = (tt, h.0)
init_place P (x ∷ ss) s h = let rest = init_place P ss s h.1 in ((h.0, rest.0), rest.1)

-- ---- a slot with other states

module _ (slot : Place) (w : List AggState) (old new : Pool) (writes : Writes slot w old new) where
  pub written_held : (owner : ℕ) (ss : List Place) → IsSlotOf old owner slot → AreHeld old owner ss → AreHeld new owner ss
  written_held owner ss own h = record {
    each = each_place (IsSlotOf old owner) (IsSlotOf new owner) (λ s. frames.own_still slot w old new writes owner s own.owned) ss h.each;
    apart = h.apart;
    all = h.all ∙ sym (frames.held_same slot w old new writes owner own.owned own.out);
  }

  pub written_others : (owner : ℕ) → slot.owner ≡ owner → (ss : List Place) → AllByRecursion (IsSlotOf old owner) ss
      → AllByRecursion (λ m. nat_eq slot.number m ≡ false) (numbers ss) → map (states_at new) ss ≡ map (states_at old) ss
  written_others owner is [] each differ = refl
  written_others owner is (s ∷ ss) each differ = λ i. frames.states_there slot w old new writes s (each.0.owned ∙ sym is) (frames.apart_from slot.number s.number differ.0) i
      ∷ written_others owner is ss each.1 differ.1 i

-- ---- the last slot given back

module _ (owner : ℕ) (ss : List Place) (slot : Place) (old : Pool) (h : AreHeld old owner (ss ++ slot ∷ [])) where
  parts : AllByRecursion (IsSlotOf old owner) ss × IsSlotOf old owner slot
  parts = init_place (IsSlotOf old owner) ss slot h.each

  pub last_slot : IsSlotOf old owner slot
  last_slot = parts.1

  apart_parts : IsDistinct nat_eq (numbers ss) × AllByRecursion (λ m. nat_eq slot.number m ≡ false) (numbers ss)
  apart_parts = frames.init_apart (numbers ss) slot.number (subst (IsDistinct nat_eq) (map-append (λ (s : Place). s.number) ss (slot ∷ [])) h.apart)

  module _ (new : Pool) (gives : GivesBack slot old new) where
    left : (ss : List Place) → AllByRecursion (IsSlotOf old owner) ss → AllByRecursion (λ m. nat_eq slot.number m ≡ false) (numbers ss) → AllByRecursion (IsSlotOf new owner) ss
    left [] each away = tt
    left (s ∷ ss) each away = (frames.given_still slot old new gives owner s parts.1.owned (frames.apart_from slot.number s.number away.0) each.0, left ss each.1 away.1)

    pub given_held : AreHeld new owner ss
    given_held = record {
      each = left ss parts.0 apart_parts.1;
      apart = apart_parts.0;
      all = omega (arith, h.all, length-append ss (slot ∷ []), frames.held_less slot old new gives owner parts.1.owned parts.1.out);
    }

    pub given_keeps : KeepsOthers owner old new
    given_keeps = subst (λ o. KeepsOthers o old new) parts.1.owned (frames.keeps_changed slot.owner _ old new gives)

-- ---- the groups saved one by one

place_slot : (P : Place → Type 0) (es : Entries) (at : ℕ) → AllByRecursion (λ e. P e.1) es → at < length es → P (place_at es at)
place_slot P [] at h lt = absurd (omega (arith, lt))
place_slot P (e ∷ es) zero h lt = h.0
place_slot P (e ∷ es) (suc at) h lt = place_slot P es at h.1 (omega (arith, lt))

push_entry : (P : List Value × Place → Type 0) (es : Entries) (e : List Value × Place) → AllByRecursion P es → P e → AllByRecursion P (es ++ e ∷ [])
push_entry P [] e h one = (one, tt)
push_entry P (x ∷ es) e h one = (h.0, push_entry P es e h.1 one)

item_at : {X : Type 0} (es : List X) (at : ℕ) (e : X) → Some e ≡ slice_get es at → take (suc at) es ≡ take at es ++ e ∷ []
item_at [] at e is = absurd (none_some (sym is))
item_at (x ∷ es) zero e is = let same : e ≡ x = cc in ap (λ e. e ∷ []) (sym same)
item_at (x ∷ es) (suc at) e is = ap (λ l. x ∷ l) (item_at es at e is)

entry_at : {X : Type 0} (es : List X) (at : ℕ) (e : X) → Some e ≡ slice_get es at → take (at + 1) es ≡ take at es ++ e ∷ []
entry_at es at e is = ap (λ n. take n es) (let on : at + 1 ≡ suc at = omega arith in on) ∙ item_at es at e is

-- the states of the first groups are in a list
pub record Saving (t : PooledTable) (pool : Pool) (items : List AggState) (at : ℕ) : Type 0 where
  pub each : AllByRecursion (λ entry. length (states_at pool entry.1) ≡ length (kinds_at pool t.owner)) (take at t.slots)
  pub states_are : items ≡ flat_map (λ entry. states_at pool entry.1) (take at t.slots)

pub saving_none : (t : PooledTable) (pool : Pool) (items : List AggState) → items ≡ [] → Saving t pool items 0
saving_none t pool items none = record { each = tt; states_are = none }

module _ (t : PooledTable) (pool : Pool) (holds : HoldsAll t pool) (items : List AggState) (at : ℕ) (saving : Saving t pool items at) where
  module _ (key : List Value) (own : Place) (is : Some (key, own) ≡ slice_get t.slots at) (within : at < length t.slots) where
    pub own_slot : IsSlotOf pool t.owner own
    own_slot = subst (IsSlotOf pool t.owner) (sym (place_get t.slots at key own is)) (place_slot (IsSlotOf pool t.owner) t.slots at holds.each within)

    pub saving_next : (more : List AggState) → more ≡ items ++ states_at pool own → length (states_at pool own) ≡ length (kinds_at pool own.owner) → Saving t pool more (at + 1)
    saving_next more more_is long = record {
      each = subst (AllByRecursion (λ entry. length (states_at pool entry.1) ≡ length (kinds_at pool t.owner))) (sym (entry_at t.slots at (key, own) is))
          (push_entry (λ entry. length (states_at pool entry.1) ≡ length (kinds_at pool t.owner)) (take at t.slots) (key, own) saving.each
          (long ∙ ap (λ o. length (kinds_at pool o)) own_slot.owned));
      states_are = more_is ∙ (λ i. saving.states_are i ++ states_at pool own)
          ∙ flat_map_more (λ (entry : List Value × Place). states_at pool entry.1) [] (take at t.slots) (key, own)
          ∙ ap (flat_map (λ (entry : List Value × Place). states_at pool entry.1)) (sym (entry_at t.slots at (key, own) is));
    }

  pub saving_all : length t.slots ≤ at → HasSaved t pool items
  saving_all all = record {
    table = holds;
    each = subst (AllByRecursion (λ entry. length (states_at pool entry.1) ≡ length (kinds_at pool t.owner))) (take_all at t.slots all) saving.each;
    states_are = saving.states_are ∙ ap (flat_map (λ (entry : List Value × Place). states_at pool entry.1)) (take_all at t.slots all);
  }

-- ---- maps that are the same

-- maps of as many numbers as are listed, which agree at each of them
module _ (m k : Slots) (n : ℕ) where
  less : (x : Slots) (ns : List ℕ) → finite.contains_key x n ≡ true → suc (length ns) ≡ finite.len x → length ns ≡ finite.len (finite.remove x n)
  less x ns in_x len = let is : finite.len (finite.remove x n) ≡ finite.len x - 1 = finite.len-remove nat_cmp_total x n ∙ ap (λ b. cond b (finite.len x - 1) (finite.len x)) in_x in
      omega (arith, is, len)

  out_less : (ns : List ℕ) → AllByRecursion (λ q. nat_eq n q ≡ false) ns → AllByRecursion (λ q. finite.contains_key m q ≡ true) ns
      → AllByRecursion (λ q. finite.contains_key (finite.remove m n) q ≡ true) ns
  out_less [] away out = tt
  out_less (q ∷ ns) away out = (ap is_some (gone_there m n q (frames.apart_from n q away.0)) ∙ out.0, out_less ns away.1 out.1)

  agree_less : (ns : List ℕ) → AllByRecursion (λ q. nat_eq n q ≡ false) ns → AllByRecursion (λ q. finite.get m q ≡ finite.get k q) ns
      → AllByRecursion (λ q. finite.get (finite.remove m n) q ≡ finite.get (finite.remove k n) q) ns
  agree_less [] away same = tt
  agree_less (q ∷ ns) away same = (gone_there m n q (frames.apart_from n q away.0) ∙ same.0 ∙ sym (gone_there k n q (frames.apart_from n q away.0)), agree_less ns away.1 same.1)

  one_more : finite.get m n ≡ finite.get k n → finite.remove m n ≡ finite.remove k n → m ≡ k
  one_more here rest = same_slots m k n here (λ q ne. sym (gone_there m n q ne) ∙ ap (λ (x : Slots). finite.get x q) rest ∙ gone_there k n q ne)

same_at : (ns : List ℕ) (m k : Slots) → IsDistinct nat_eq ns → AllByRecursion (λ n. finite.contains_key m n ≡ true) ns → AllByRecursion (λ n. finite.get m n ≡ finite.get k n) ns
    → length ns ≡ finite.len m → length ns ≡ finite.len k → m ≡ k
unfolding IsDistinct
same_at [] m k d out same one two = finite.empty_of_len m (sym one) ∙ sym (finite.empty_of_len k (sym two))
same_at (n ∷ ns) m k d out same one two = one_more m k n same.0 (same_at ns (finite.remove m n) (finite.remove k n) d.1 (out_less m k n ns d.0 out.1) (agree_less m k n ns d.0 same.1)
    (less m k n m ns out.0 one) (less m k n k ns (sym (ap is_some same.0) ∙ out.0) two))

get_of : (o : Option (List AggState)) → is_some o ≡ true → o ≡ Some (unwrap_or o [])
get_of None out = absurd (none_out' out)
  where
    none_out' : false ≡ true → ⊥
    none_out' e = cc
get_of (Some w) out = refl

-- an owner that holds the same slots with the same states in two pools
pub same_held : (owner : ℕ) (one two : Pool) (ss : List Place) → AreHeld one owner ss → AreHeld two owner ss
    → map (states_at one) ss ≡ map (states_at two) ss → slots_of one owner ≡ slots_of two owner
same_held owner one two ss a b same = same_at (numbers ss) (slots_of one owner) (slots_of two owner) a.apart (all_out ss a.each) (agree ss a.each b.each same)
    (length-map ss (λ (s : Place). s.number) ∙ a.all) (length-map ss (λ (s : Place). s.number) ∙ b.all)
  where
    out_of : (pool : Pool) (s : Place) → IsSlotOf pool owner s → finite.contains_key (slots_of pool owner) s.number ≡ true
    out_of pool s own = ap (λ o. finite.contains_key (slots_of pool o) s.number) (sym own.owned) ∙ own.out

    its_get : (pool : Pool) (s : Place) → IsSlotOf pool owner s → finite.get (slots_of pool owner) s.number ≡ Some (states_at pool s)
    its_get pool s own = ap (λ o. finite.get (slots_of pool o) s.number) (sym own.owned) ∙ get_of (finite.get (slots_of pool s.owner) s.number) own.out

    all_out : (ss : List Place) → AllByRecursion (IsSlotOf one owner) ss → AllByRecursion (λ n. finite.contains_key (slots_of one owner) n ≡ true) (numbers ss)
    all_out [] each = tt
    all_out (s ∷ ss) each = (out_of one s each.0, all_out ss each.1)

    agree : (ss : List Place) → AllByRecursion (IsSlotOf one owner) ss → AllByRecursion (IsSlotOf two owner) ss → map (states_at one) ss ≡ map (states_at two) ss
        → AllByRecursion (λ n. finite.get (slots_of one owner) n ≡ finite.get (slots_of two owner) n) (numbers ss)
    agree [] a b same = tt
    agree (s ∷ ss) a b same =
        let head : states_at one s ≡ states_at two s = cc in
        let tail : map (states_at one) ss ≡ map (states_at two) ss = cc in
        (its_get one s a.0 ∙ ap Some head ∙ sym (its_get two s b.0), agree ss a.1 b.1 tail)

-- ---- the newest groups given back

places_push : (es : Entries) (key : List Value) (slot : Place) → places (es ++ (key, slot) ∷ []) ≡ places es ++ slot ∷ []
places_push [] key slot = refl
places_push (e ∷ es) key slot = ap (λ l. e.1 ∷ l) (places_push es key slot)

-- entries from the last one on are gone, and their slots given back
pub record Shortened (t : PooledTable) (before : Pool) (pool : Pool) (es : Entries) : Type 0 where
  pub held_are : AreHeld pool t.owner (places es)
  pub keeps : KeepsOthers t.owner before pool
  pub front : (more : Entries) × (t.slots ≡ es ++ more)

pub shortened_none : (t : PooledTable) (before : Pool) → HoldsAll t before → Shortened t before before t.slots
shortened_none t before holds = record {
  held_are = table_held t before holds;
  keeps = frames.keeps_same t.owner before;
  front = ([], sym (append-nil t.slots));
}

module _ (t : PooledTable) (before pool : Pool) (es : Entries) (key : List Value) (slot : Place) (short : Shortened t before pool (es ++ (key, slot) ∷ [])) where
  ends : AreHeld pool t.owner (places es ++ slot ∷ [])
  ends = subst (AreHeld pool t.owner) (places_push es key slot) short.held_are

  pub newest_out : IsOut pool slot
  newest_out = (last_slot t.owner (places es) slot pool ends).out

  pub shortened_next : (new : Pool) → GivesBack slot pool new → Shortened t before new es
  shortened_next new gives = record {
    held_are = given_held t.owner (places es) slot pool ends new gives;
    keeps = frames.keeps_both t.owner before pool new short.keeps (given_keeps t.owner (places es) slot pool ends new gives);
    front = ((key, slot) ∷ short.front.0, short.front.1 ∙ append_assoc es ((key, slot) ∷ []) short.front.0);
  }

-- ---- the groups put back

-- lists of the same length at the front of the same list
same_front : {X : Type 0} (xs ys us vs : List X) → xs ++ us ≡ ys ++ vs → length xs ≡ length ys → (xs ≡ ys) × (us ≡ vs)
same_front [] [] us vs e len = (refl, e)
same_front [] (y ∷ ys) us vs e len = absurd (omega (arith, len))
same_front (x ∷ xs) [] us vs e len = absurd (omega (arith, len))
same_front (x ∷ xs) (y ∷ ys) us vs e len =
    let head : x ≡ y = cc in
    let tail : xs ++ us ≡ ys ++ vs = cc in
    let less : length xs ≡ length ys = omega (arith, len) in
    let rest = same_front xs ys us vs tail less in (λ i. head i ∷ rest.0 i, rest.1)

same_factor : (n k m : ℕ) → 0 < n → n * k ≡ n * m → k ≡ m
same_factor n k m lt is = sym (mul-div_cancel_left k lt) ∙ ap (λ p. p / n) is ∙ mul-div_cancel_left m lt

long_rows : (pool : Pool) (k : ℕ) (ss : List Place) → AllByRecursion (λ s. length (states_at pool s) ≡ k) ss → length (flat_map (states_at pool) ss) ≡ length ss * k
long_rows pool k [] each = sym (zero-mul k)
long_rows pool k (s ∷ ss) each =
    let one : suc (length ss) * k ≡ length ss * k + k = suc-mul (length ss) k in
    omega (arith, one, length-append (states_at pool s) (flat_map (states_at pool) ss), long_rows pool k ss each.1, each.0)

-- slots whose states are the same one after the other have the same states, where each has as many
same_rows : (one two : Pool) (k : ℕ) (ss : List Place) → AllByRecursion (λ s. length (states_at one s) ≡ k) ss → AllByRecursion (λ s. length (states_at two s) ≡ k) ss
    → flat_map (states_at one) ss ≡ flat_map (states_at two) ss → map (states_at one) ss ≡ map (states_at two) ss
same_rows one two k [] a b is = refl
same_rows one two k (s ∷ ss) a b is =
    let parts = same_front (states_at one s) (states_at two s) (flat_map (states_at one) ss) (flat_map (states_at two) ss) is (a.0 ∙ sym b.0) in
    λ i. parts.0 i ∷ same_rows one two k ss a.1 b.1 parts.1 i

push_place : (P : Place → Type 0) (ss : List Place) (s : Place) → AllByRecursion P ss → P s → AllByRecursion P (ss ++ s ∷ [])
push_place P [] s h one = (one, tt)
push_place P (x ∷ ss) s h one = (h.0, push_place P ss s h.1 one)

take_places : (P : Place → Type 0) (n : ℕ) (ss : List Place) → AllByRecursion P ss → AllByRecursion P (take n ss)
take_places P zero ss h = tt
take_places P (suc n) [] h = tt
take_places P (suc n) (s ∷ ss) h = (h.0, take_places P n ss h.1)

take_numbers : (P : ℕ → Type 0) (n : ℕ) (ss : List Place) → AllByRecursion P (numbers ss) → AllByRecursion P (numbers (take n ss))
take_numbers P zero ss h = tt
take_numbers P (suc n) [] h = tt
take_numbers P (suc n) (s ∷ ss) h = (h.0, take_numbers P n ss h.1)

take_apart : (n : ℕ) (ss : List Place) → IsDistinct nat_eq (numbers ss) → IsDistinct nat_eq (numbers (take n ss))
unfolding IsDistinct
take_apart zero ss d = tt
take_apart (suc n) [] d = tt
take_apart (suc n) (s ∷ ss) d = (take_numbers (λ m. nat_eq s.number m ≡ false) n ss d.0, take_apart n ss d.1)

get_place : (es : Entries) (at : ℕ) (key : List Value) (own : Place) → Some (key, own) ≡ slice_get es at → Some own ≡ slice_get (places es) at
get_place [] at key own is = absurd (none_some (sym is))
get_place (e ∷ es) zero key own is = let same : (key, own) ≡ e = cc in ap (λ (e : List Value × Place). Some e.1) same
get_place (e ∷ es) (suc at) key own is = get_place es at key own is

places_take : (es : Entries) (at : ℕ) (key : List Value) (own : Place) → Some (key, own) ≡ slice_get es at → take (at + 1) (places es) ≡ take at (places es) ++ own ∷ []
places_take es at key own is = entry_at (places es) at own (get_place es at key own is)

-- the first of the groups have the states of a list
pub record PutBack (t : PooledTable) (before : Pool) (states : List AggState) (k : ℕ) (es : Entries) (pool : Pool) (at : ℕ) : Type 0 where
  pub own : AreHeld pool t.owner (places es)
  pub keeps : KeepsOthers t.owner before pool
  pub each : AllByRecursion (λ s. length (states_at pool s) ≡ k) (take at (places es))
  pub states_are : flat_map (states_at pool) (take at (places es)) ≡ take (at * k) states

module _ (t : PooledTable) (before : Pool) (states : List AggState) (k : ℕ) (es : Entries) where
  pub put_none : (pool : Pool) → Shortened t before pool es → PutBack t before states k es pool 0
  put_none pool short = record { own = short.held_are; keeps = short.keeps; each = tt; states_are = ap (λ n. take n states) (sym (zero-mul k)) }

  -- the states of a group are within the list
  pub row_fits : (at count : ℕ) → at < count → length states ≡ count * k → at * k + k ≤ length states
  row_fits at count lt len =
      let next : suc at ≤ count = omega (arith, lt) in
      let same : k ≤ k = omega arith in
      let whole : suc at * k ≤ count * k = mul-le (suc at) k count k next same in
      let one : suc at * k ≡ at * k + k = suc-mul at k in
      omega (arith, one, whole, len)

  pub row_long : (at count : ℕ) → at < count → length states ≡ count * k → length (take k (drop (at * k) states)) ≡ k
  row_long at count lt len = length-take-le k (drop (at * k) states) (omega (arith, row_fits at count lt len, length-drop (at * k) states))

  module _ (pool : Pool) (at : ℕ) (put : PutBack t before states k es pool at) (key : List Value) (own : Place) (is : Some (key, own) ≡ slice_get es at) where
    taken : AllByRecursion (IsSlotOf pool t.owner) (take at (places es) ++ own ∷ [])
    taken = subst (AllByRecursion (IsSlotOf pool t.owner)) (places_take es at key own is) (take_places (IsSlotOf pool t.owner) (at + 1) (places es) put.own.each)

    parts_taken : AllByRecursion (IsSlotOf pool t.owner) (take at (places es)) × IsSlotOf pool t.owner own
    parts_taken = init_place (IsSlotOf pool t.owner) (take at (places es)) own taken

    pub own_out : IsOut pool own
    own_out = parts_taken.1.out

    pub own_kinds : kinds_at pool own.owner ≡ kinds_at before t.owner
    own_kinds = ap (kinds_at pool) parts_taken.1.owned ∙ ap (λ kss. get_or kss t.owner []) put.keeps.kinds

    away : AllByRecursion (λ m. nat_eq own.number m ≡ false) (numbers (take at (places es)))
    away = (frames.init_apart (numbers (take at (places es))) own.number
        (subst (IsDistinct nat_eq) (ap numbers (places_take es at key own is) ∙ map-append (λ (s : Place). s.number) (take at (places es)) (own ∷ []))
        (take_apart (at + 1) (places es) put.own.apart))).1

    module _ (w : List AggState) (w_is : w ≡ take k (drop (at * k) states)) (long : length w ≡ k) (new : Pool) (writes : Writes own w pool new) where
      same_before : map (states_at new) (take at (places es)) ≡ map (states_at pool) (take at (places es))
      same_before = written_others own w pool new writes t.owner parts_taken.1.owned (take at (places es)) parts_taken.0 away

      same_long : (ss : List Place) → map (states_at new) ss ≡ map (states_at pool) ss → AllByRecursion (λ s. length (states_at pool s) ≡ k) ss → AllByRecursion (λ s. length (states_at new s) ≡ k) ss
      same_long [] same h = tt
      same_long (s ∷ ss) same h =
          let head : states_at new s ≡ states_at pool s = cc in
          let tail : map (states_at new) ss ≡ map (states_at pool) ss = cc in (ap length head ∙ h.0, same_long ss tail h.1)

      same_flat : (ss : List Place) → map (states_at new) ss ≡ map (states_at pool) ss → flat_map (states_at new) ss ≡ flat_map (states_at pool) ss
      same_flat [] same = refl
      same_flat (s ∷ ss) same =
          let head : states_at new s ≡ states_at pool s = cc in
          let tail : map (states_at new) ss ≡ map (states_at pool) ss = cc in λ i. head i ++ same_flat ss tail i

      here : states_at new own ≡ w
      here = frames.states_here own w pool new writes

      pub put_next : PutBack t before states k es new (at + 1)
      put_next = record {
        own = written_held own w pool new writes t.owner (places es) parts_taken.1 put.own;
        keeps = frames.keeps_both t.owner before pool new put.keeps (subst (λ o. KeepsOthers o pool new) parts_taken.1.owned (frames.keeps_changed own.owner _ pool new writes));
        each = subst (AllByRecursion (λ s. length (states_at new s) ≡ k)) (sym (places_take es at key own is))
            (push_place (λ s. length (states_at new s) ≡ k) (take at (places es)) own (same_long (take at (places es)) same_before put.each) (ap length here ∙ long));
        states_are = ap (flat_map (states_at new)) (places_take es at key own is)
            ∙ sym (flat_map_more (states_at new) [] (take at (places es)) own)
            ∙ (λ i. same_flat (take at (places es)) same_before i ++ here i)
            ∙ (λ i. put.states_are i ++ w_is i)
            ∙ sym (take-add (at * k) k states)
            ∙ ap (λ n. take n states) (sym (let on : (at + 1) * k ≡ suc at * k = ap (λ n. n * k) (let e : at + 1 ≡ suc at = omega arith in e) in on ∙ suc-mul at k));
      }

  module _ (pool : Pool) (at : ℕ) (put : PutBack t before states k es pool at) (short : (more : Entries) × (t.slots ≡ es ++ more))
      (all : at ≡ length es) (len : length states ≡ length es * k)
      (was : PooledTable) (first : Pool) (extends : Extends was t) (count : length es ≡ length was.slots) (has : HasSaved was first states) where
    was_slots : es ≡ was.slots
    was_slots = (same_front es was.slots short.0 extends.0 (sym short.1 ∙ ap (λ (u : PooledTable). u.slots) extends.1) count).0

    pub table_back : with_slots t es ≡ was
    table_back = ap (λ (u : PooledTable). with_slots u es) extends.1 ∙ ap (with_slots was) was_slots

    same_owner : t.owner ≡ was.owner
    same_owner = ap (λ (u : PooledTable). u.owner) extends.1

    whole : take at (places es) ≡ places es
    whole = take_all at (places es) (omega (arith, all, length-map es (λ (e : List Value × Place). e.1)))

    its_states : flat_map (states_at pool) (places es) ≡ states
    its_states = ap (flat_map (states_at pool)) (sym whole) ∙ put.states_are ∙ ap (λ n. take (n * k) states) all ∙ take_all (length es * k) states (omega (arith, len))

    its_each : AllByRecursion (λ s. length (states_at pool s) ≡ k) (places es)
    its_each = subst (AllByRecursion (λ s. length (states_at pool s) ≡ k)) whole put.each

    abbrev were : ℕ
    were = length (kinds_at first was.owner)

    was_each : AllByRecursion (λ s. length (states_at first s) ≡ were) (places es)
    was_each = subst (λ (es : Entries). AllByRecursion (λ s. length (states_at first s) ≡ were) (places es)) (sym was_slots)
        (slots_in (λ s. length (states_at first s) ≡ were) was.slots has.each)

    was_states : states ≡ flat_map (states_at first) (places es)
    was_states = has.states_are ∙ sym (flat_map-map (states_at first) (λ (e : List Value × Place). e.1) was.slots) ∙ ap (λ (es : Entries). flat_map (states_at first) (places es)) (sym was_slots)

    rows_by : (ss : List Place) → AllByRecursion (λ s. length (states_at pool s) ≡ k) ss → AllByRecursion (λ s. length (states_at first s) ≡ were) ss
        → flat_map (states_at pool) ss ≡ flat_map (states_at first) ss → map (states_at pool) ss ≡ map (states_at first) ss
    rows_by [] a b is = refl
    rows_by (s ∷ ss) a b is =
        let lengths : length (s ∷ ss) * k ≡ length (s ∷ ss) * were = sym (long_rows pool k (s ∷ ss) a) ∙ ap length is ∙ long_rows first were (s ∷ ss) b in
        let same : k ≡ were = same_factor (length (s ∷ ss)) k were (omega arith) lengths in
        same_rows pool first k (s ∷ ss) a (subst (λ n. AllByRecursion (λ s. length (states_at first s) ≡ n) (s ∷ ss)) (sym same) b) is

    pub slots_back : slots_of pool t.owner ≡ slots_of first was.owner
    slots_back = ap (slots_of pool) same_owner ∙ same_held was.owner pool first (places was.slots)
        (subst (λ o. AreHeld pool o (places was.slots)) same_owner (subst (λ (es : Entries). AreHeld pool t.owner (places es)) was_slots put.own))
        (table_held was first has.table)
        (ap (λ (es : Entries). map (states_at pool) (places es)) (sym was_slots) ∙ rows_by (places es) its_each was_each (its_states ∙ was_states)
        ∙ ap (λ (es : Entries). map (states_at first) (places es)) was_slots)

-- ---- how long the list is

pub saved_long : (was : PooledTable) (before : Pool) (states : List AggState) → HasSaved was before states → length states ≡ length was.slots * length (kinds_at before was.owner)
saved_long was before states has =
    ap length (has.states_are ∙ sym (flat_map-map (states_at before) (λ (e : List Value × Place). e.1) was.slots))
    ∙ long_rows before (length (kinds_at before was.owner)) (places was.slots) (slots_in (λ s. length (states_at before s) ≡ length (kinds_at before was.owner)) was.slots has.each)
    ∙ ap (λ n. n * length (kinds_at before was.owner)) (length-map was.slots (λ (e : List Value × Place). e.1))
