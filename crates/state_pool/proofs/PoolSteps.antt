-- Pools as they are made, and the states of their slots.
use Rattle.std.proofs.Common.{◌≡◌, ◌≢◌, ◌∙◌, ℕ, ◌+◌, ◌*◌, ◌<◌, ◌≤◌, ◌^◌, List, [], ◌∷◌, length, get_or, set, take, drop, map, sum, slice_get, Option, Some, None, refl, sym, ap, subst, arith, ◌⊎◌, inl, inr, cond}
use Rattle.std.proofs.lemmas.List.{length-map, get_or-take, get_or-drop, length-set}
use Rattle.std.proofs.lemmas.List.Sums.{sum_by-cons}
use Rattle.std.proofs.lemmas.Nat.{mul-add-lt}
use Rattle.std.proofs.lemmas.Option.{slice_get-get_or}
use Rattle.std.specs.FinMap as finite
use Rattle.std.specs.Ordering.{nat_cmp}
use Rattle.std.specs.Cmp.{nat_cmp_total}
use Rattle.std.proofs.lemmas.Bool.{cases_lt}
use native.Mathlib.Nat.{mul_comm}
use Rattle.agg_laws.specs.declared.aggregate_kind.AggKind.{AggKind}
use Rattle.agg_laws.specs.declared.states.AggState.{AggState}
use Rattle.state_pool.specs.declared.pool.Owner.{Owner}
use Rattle.state_pool.specs.Pool.{Pool, Place, row_of, slots_of, kinds_at, Writes, IsOut, IsNew, states_at, with_state}
use Rattle.state_pool.specs.Kept.{IsOwner, IsKept, HasRoom, pool_in, most_of, out_of, part_of, with_part}
use Rattle.state_pool.proofs.SlotLemmas.{held_by, other_held}
use Rattle.state_pool.proofs.CellLemmas.{in_range, none_free, part_long, part_of_set, rows_of_set, row_before, row_after, other_row, part_before, part_after, part_written, length-spliced}
use Rattle.state_pool.proofs.PartSteps.{length-part}
use Rattle.state_pool.proofs.OwnerLemmas.{Moved, puts, stays, map_at, out_holder, states_are}

-- ---- a pool that is new

module _ (kinds : List AggKind) where
  abbrev pub fresh : ℕ → Owner
  fresh quota = record { quota = quota; held = 0; kinds = kinds }

  most_fresh : (quotas : List ℕ) → most_of (map fresh quotas) ≡ sum quotas
  most_fresh [] = refl
  most_fresh (q ∷ qs) = omega (arith, sum_by-cons (λ (o : Owner). o.quota) (fresh q) (map fresh qs), sum_by-cons (λ (q : ℕ). q) q qs, most_fresh qs)

  out_fresh : (quotas : List ℕ) → out_of (map fresh quotas) ≡ 0
  out_fresh [] = refl
  out_fresh (q ∷ qs) = omega (arith, sum_by-cons (λ (o : Owner). o.held) (fresh q) (map fresh qs), out_fresh qs)

  quotas_fresh : (quotas : List ℕ) → map (λ (o : Owner). o.quota) (map fresh quotas) ≡ quotas
  quotas_fresh [] = refl
  quotas_fresh (q ∷ qs) = ap (λ l. q ∷ l) (quotas_fresh qs)

  fresh_at : (quotas : List ℕ) (at : ℕ) (d : Owner) → at < length (map fresh quotas) → get_or (map fresh quotas) at d ≡ fresh (get_or quotas at 0)
  fresh_at quotas at d lt = map_at fresh quotas at 0 d (omega (arith, lt, length-map quotas fresh))

  kept_fresh : (quotas : List ℕ) → IsKept (map fresh quotas) (pool_in (map fresh quotas) [] (length kinds) 0 []) []
  kept_fresh quotas = record {
    each = λ at d lt. subst (IsOwner (pool_in (map fresh quotas) [] (length kinds) 0 []) at) (sym (fresh_at quotas at d lt)) (record {
      counted = sym (finite.len-empty nat_cmp (List AggState));
      within = omega arith;
      fits = omega arith;
    });
    known = λ number owner e. absurd (none_here number owner e);
    narrow = λ number owner e. absurd (none_here number owner e);
    within = omega arith;
    free_are = none_free [] [] refl;
    all_cells = omega arith;
    all_numbers = omega (arith, out_fresh quotas);
    few_numbers = omega arith;
  }
    where
      none_here : (number owner : ℕ) → get_or {A = Option ℕ} [] number None ≡ Some owner → ⊥
      none_here number owner e = let lt : number < 0 = in_range [] number owner e in omega (arith, lt)

  new_fresh : (quotas : List ℕ) → IsNew kinds quotas (pool_in (map fresh quotas) [] (length kinds) 0 [])
  new_fresh quotas = record {
    quotas_are = quotas_fresh quotas;
    width_is = refl;
    kinds_are = λ owner lt. let there : owner < length (map fresh quotas) = omega (arith, lt, length-map quotas fresh) in
        map_at (λ (o : Owner). o.kinds) (map fresh quotas) owner (fresh 0) [] there ∙ ap (λ (o : Owner). o.kinds) (fresh_at quotas owner (fresh 0) there);
    none_out = λ owner. refl;
  }

  module _ (quotas : List ℕ) (owners : List Owner) (holders : List (Option ℕ)) (limit width : ℕ) (cells : List AggState) (free : List ℕ)
      (owners_are : owners ≡ map fresh quotas) (no_holders : holders ≡ []) (limit_is : limit ≡ length kinds) (width_is : width ≡ 0) (no_cells : cells ≡ []) where
    same_pool : pool_in (map fresh quotas) [] (length kinds) 0 [] ≡ pool_in owners holders limit width cells
    same_pool = λ i. pool_in (sym owners_are i) (sym no_holders i) (sym limit_is i) (sym width_is i) (sym no_cells i)

    pub new_pool : IsNew kinds quotas (pool_in owners holders limit width cells)
    new_pool = subst (IsNew kinds quotas) same_pool (new_fresh quotas)

    pub new_kept : free ≡ [] → IsKept owners (pool_in owners holders limit width cells) free
    new_kept none = subst (IsKept owners (pool_in owners holders limit width cells)) (sym none)
        (subst (λ p. IsKept owners p []) same_pool (subst (λ (os : List Owner). IsKept os (pool_in (map fresh quotas) [] (length kinds) 0 []) []) (sym owners_are) (kept_fresh quotas)))

    pub new_most : most_of owners ≡ sum quotas
    new_most = ap most_of owners_are ∙ most_fresh quotas

    pub new_room : (holders_room cells_room free_room slots : ℕ) → slots ≡ sum quotas → sum quotas < 2 ^ 32 → holders_room ≡ slots → cells_room ≡ slots * length kinds
        → free_room ≡ slots → HasRoom (most_of owners) limit holders_room cells_room free_room
    new_room holders_room cells_room free_room slots total small h c f =
        let most = new_most in
        let cells_are : most_of owners * limit ≡ slots * length kinds = λ i. (most ∙ sym total) i * limit_is i in
        record {
          small = omega (arith, most, small);
          holders_fit = omega (arith, most, total, h);
          cells_fit = omega (arith, cells_are, c);
          free_fit = omega (arith, most, total, f);
        }

-- as many slots, with more room for free numbers
pub wider : (slots same width holders_room cells_room free_room more : ℕ) → same ≡ slots → free_room ≤ more
    → HasRoom slots width holders_room cells_room free_room → HasRoom same width holders_room cells_room more
wider slots same width h c f more is le room = subst (λ n. HasRoom n width h c more) (sym is) (record {
  small = room.small;
  holders_fit = room.holders_fit;
  cells_fit = room.cells_fit;
  free_fit = omega (arith, room.free_fit, le);
})

-- ---- the cells of a slot written anew

module _ (owners : List Owner) (holders : List (Option ℕ)) (limit width : ℕ) (cells : List AggState) (free : List ℕ)
    (kept : IsKept owners (pool_in owners holders limit width cells) free) (slot : Place)
    (out : IsOut (pool_in owners holders limit width cells) slot) (states new_cells : List AggState)
    (moved : Moved slot.number (pool_in owners holders limit width cells) (pool_in owners holders limit width new_cells))
    (part : take (length (kinds_at (pool_in owners holders limit width cells) slot.owner)) (drop (slot.number * width) new_cells) ≡ states)
    (len : length new_cells ≡ length cells) where
  holder : get_or holders slot.number None ≡ Some slot.owner
  holder = out_holder (pool_in owners holders limit width cells) slot out

  pub rewrites : Writes slot states (pool_in owners holders limit width cells) (pool_in owners holders limit width new_cells)
  rewrites = record {
    quotas = refl;
    kinds = refl;
    width = refl;
    own = puts slot.number (pool_in owners holders limit width cells) (pool_in owners holders limit width new_cells) moved
        kept.narrow slot.owner states
        (held_by (pool_in owners holders limit width new_cells) slot.owner slot.number holder ∙ ap Some part);
    others = λ other ne. stays slot.number (pool_in owners holders limit width cells) (pool_in owners holders limit width new_cells) moved
        kept.narrow other
        (other_held (pool_in owners holders limit width new_cells) slot.owner other slot.number holder ne
        ∙ sym (other_held (pool_in owners holders limit width cells) slot.owner other slot.number holder ne));
  }

  pub rewritten_kept : IsKept owners (pool_in owners holders limit width new_cells) free
  rewritten_kept = record {
    each = λ place d less. let o = kept.each place d less in record {
      counted = o.counted ∙ same_len place (cases_lt place slot.owner) (cases_lt slot.owner place);
      within = o.within;
      fits = o.fits;
    };
    known = kept.known;
    narrow = kept.narrow;
    within = kept.within;
    free_are = kept.free_are;
    all_cells = len ∙ kept.all_cells;
    all_numbers = kept.all_numbers;
    few_numbers = kept.few_numbers;
  }
    where
      other : (place : ℕ) → place ≢ slot.owner → finite.len (slots_of (pool_in owners holders limit width cells) place)
          ≡ finite.len (slots_of (pool_in owners holders limit width new_cells) place)
      other place ne = ap finite.len (sym (rewrites.others place ne))

      same_len : (place : ℕ) → (place < slot.owner) ⊎ (slot.owner ≤ place) → (slot.owner < place) ⊎ (place ≤ slot.owner)
          → finite.len (slots_of (pool_in owners holders limit width cells) place) ≡ finite.len (slots_of (pool_in owners holders limit width new_cells) place)
      same_len place (inl l) after = other place (λ e. omega (arith, l, e))
      same_len place (inr ge) (inl l) = other place (λ e. omega (arith, l, e))
      same_len place (inr ge) (inr le) = let same : slot.owner ≡ place = omega (arith, ge, le) in
          subst (λ place. finite.len (slots_of (pool_in owners holders limit width cells) place) ≡ finite.len (slots_of (pool_in owners holders limit width new_cells) place)) same
          (sym (ap finite.len rewrites.own ∙ finite.len-insert nat_cmp_total (slots_of (pool_in owners holders limit width cells) slot.owner) slot.number states
          ∙ ap (λ b. cond b (finite.len (slots_of (pool_in owners holders limit width cells) slot.owner)) (finite.len (slots_of (pool_in owners holders limit width cells) slot.owner) + 1)) out))

-- all of them at once
module _ (owners : List Owner) (holders : List (Option ℕ)) (limit width : ℕ) (cells : List AggState) (free : List ℕ)
    (kept : IsKept owners (pool_in owners holders limit width cells) free) (slot : Place)
    (out : IsOut (pool_in owners holders limit width cells) slot) where
  pub row_within : slot.number * width + length (kinds_at (pool_in owners holders limit width cells) slot.owner) ≤ length cells
  row_within = omega (
    arith,
    row_before slot.number (length holders) width (length (kinds_at (pool_in owners holders limit width cells) slot.owner))
        (in_range holders slot.number slot.owner (out_holder (pool_in owners holders limit width cells) slot out)) (kept.narrow slot.number slot.owner (out_holder (pool_in owners holders limit width cells) slot out)),
    kept.all_cells,
  )

  -- a row has a state for each kind
  pub states_long : length (states_at (pool_in owners holders limit width cells) slot) ≡ length (kinds_at (pool_in owners holders limit width cells) slot.owner)
  states_long = ap length (states_are (pool_in owners holders limit width cells) slot out)
      ∙ length-part cells (slot.number * width) (length (kinds_at (pool_in owners holders limit width cells) slot.owner)) row_within

  module _ (states : List AggState) (n : ℕ) (few : n ≡ length (kinds_at (pool_in owners holders limit width cells) slot.owner)) (len : length states ≡ n) where
    fits : slot.number * width + n ≤ length cells
    fits = omega (arith, row_within, few)

    narrow : n ≤ width
    narrow = omega (arith, few, kept.narrow slot.number slot.owner (out_holder (pool_in owners holders limit width cells) slot out))

    pub row_moved : Moved slot.number (pool_in owners holders limit width cells) (pool_in owners holders limit width (with_part cells (slot.number * width) n states))
    row_moved = record {
      quotas = refl;
      kinds = refl;
      width = refl;
      stride = refl;
      others = λ q ne. refl;
      rows = λ q m ne less le. by q m le (other_row q slot.number ne);
    }
      where
        by : (q m : ℕ) → m ≤ width → (q < slot.number) ⊎ (slot.number < q)
            → take m (drop (q * width) (with_part cells (slot.number * width) n states)) ≡ take m (drop (q * width) cells)
        by q m le (inl lt) = part_before cells states (slot.number * width) n len fits (q * width) m (row_before q slot.number width m lt le)
        by q m le (inr lt) = part_after cells states (slot.number * width) n len fits (q * width) m (row_after q slot.number width n lt narrow)

    row_part : take (length (kinds_at (pool_in owners holders limit width cells) slot.owner)) (drop (slot.number * width) (with_part cells (slot.number * width) n states)) ≡ states
    row_part = ap (λ k. take k (drop (slot.number * width) (with_part cells (slot.number * width) n states))) (sym few)
        ∙ part_written cells states (slot.number * width) n len fits

    row_length : length (with_part cells (slot.number * width) n states) ≡ length cells
    row_length = length-spliced cells states (slot.number * width) n len fits

    pub row_rewrites : Writes slot states (pool_in owners holders limit width cells) (pool_in owners holders limit width (with_part cells (slot.number * width) n states))
    row_rewrites = rewrites owners holders limit width cells free kept slot out states (with_part cells (slot.number * width) n states) row_moved row_part row_length

    pub row_kept : IsKept owners (pool_in owners holders limit width (with_part cells (slot.number * width) n states)) free
    row_kept = rewritten_kept owners holders limit width cells free kept slot out states (with_part cells (slot.number * width) n states) row_moved row_part row_length

-- ---- a state of a slot

module _ (owners : List Owner) (holders : List (Option ℕ)) (limit width : ℕ) (cells : List AggState) (free : List ℕ)
    (kept : IsKept owners (pool_in owners holders limit width cells) free) (slot : Place)
    (out : IsOut (pool_in owners holders limit width cells) slot) (at : ℕ) (lt : at < length (kinds_at (pool_in owners holders limit width cells) slot.owner)) where
  here : get_or holders slot.number None ≡ Some slot.owner
  here = out_holder (pool_in owners holders limit width cells) slot out

  at_width : at < width
  at_width = omega (arith, lt, kept.narrow slot.number slot.owner here)

  pub state_place : slot.number * width + at < length cells
  state_place = omega (
    arith,
    mul-add-lt slot.number width at (length holders) (in_range holders slot.number slot.owner here) at_width,
    mul_comm width (length holders),
    kept.all_cells,
  )

  row : List AggState
  row = row_of (pool_in owners holders limit width cells) slot.owner slot.number

  row_long : at < length row
  unfolding row
  row_long = part_long cells (slot.number * width) (length (kinds_at (pool_in owners holders limit width cells) slot.owner)) at lt state_place

  pub state_here : (state : AggState) → state ≡ get_or cells (slot.number * width + at) state
      → slice_get (states_at (pool_in owners holders limit width cells) slot) at ≡ Some state
  unfolding row
  state_here state is = ap (λ l. slice_get l at) (states_are (pool_in owners holders limit width cells) slot out)
      ∙ slice_get-get_or row at state row_long
      ∙ ap Some (get_or-take (length (kinds_at (pool_in owners holders limit width cells) slot.owner)) (drop (slot.number * width) cells) at state lt
      ∙ get_or-drop (slot.number * width) cells at state ∙ sym is)

  -- another state in its place
  module _ (state : AggState) where
    written : Moved slot.number (pool_in owners holders limit width cells) (with_state (pool_in owners holders limit width cells) slot at state)
    written = record {
      quotas = refl;
      kinds = refl;
      width = refl;
      stride = refl;
      others = λ q ne. refl;
      rows = λ q few ne less le. rows_of_set cells slot.number q width at few state ne at_width le;
    }

    part_set : take (length (kinds_at (pool_in owners holders limit width cells) slot.owner)) (drop (slot.number * width) (set cells (slot.number * width + at) state))
        ≡ set (states_at (pool_in owners holders limit width cells) slot) at state
    part_set = part_of_set cells (slot.number * width) (length (kinds_at (pool_in owners holders limit width cells) slot.owner)) at state
        ∙ ap (λ (l : List AggState). set l at state) (sym (states_are (pool_in owners holders limit width cells) slot out))

    pub writes : Writes slot (set (states_at (pool_in owners holders limit width cells) slot) at state)
        (pool_in owners holders limit width cells) (with_state (pool_in owners holders limit width cells) slot at state)
    writes = rewrites owners holders limit width cells free kept slot out (set (states_at (pool_in owners holders limit width cells) slot) at state)
        (set cells (slot.number * width + at) state) written part_set (length-set cells (slot.number * width + at) state)

    pub written_kept : IsKept owners (with_state (pool_in owners holders limit width cells) slot at state) free
    written_kept = rewritten_kept owners holders limit width cells free kept slot out (set (states_at (pool_in owners holders limit width cells) slot) at state)
        (set cells (slot.number * width + at) state) written part_set (length-set cells (slot.number * width + at) state)

-- the same of a pool and a slot that are seen as these
module _ (owners : List Owner) (holders : List (Option ℕ)) (limit width : ℕ) (cells : List AggState) (free : List ℕ)
    (kept : IsKept owners (pool_in owners holders limit width cells) free) (pool : Pool) (pool_is : pool_in owners holders limit width cells ≡ pool)
    (owner number : ℕ) (slot : Place) (slot_is : ◌≡◌ {A = Place} (record { owner = owner; number = number }) slot) (out : IsOut pool slot) where
  pub seen_out : IsOut (pool_in owners holders limit width cells) (record { owner = owner; number = number })
  seen_out = subst (λ (p : Pool). IsOut p (record { owner = owner; number = number })) (sym pool_is) (subst (IsOut pool) (sym slot_is) out)

  pub seen_holder : get_or holders number None ≡ Some owner
  seen_holder = out_holder (pool_in owners holders limit width cells) (record { owner = owner; number = number }) seen_out

  pub known_owner : owner < length owners
  known_owner = kept.known number owner seen_holder

  pub seen_row : number * width + length (kinds_at pool slot.owner) ≤ length cells
  seen_row = subst (λ (p : Pool). number * width + length (kinds_at p slot.owner) ≤ length cells) pool_is
      (subst (λ (s : Place). number * width + length (kinds_at (pool_in owners holders limit width cells) s.owner) ≤ length cells) slot_is
      (row_within owners holders limit width cells free kept (record { owner = owner; number = number }) seen_out))

  pub seen_long : length (states_at pool slot) ≡ length (kinds_at pool slot.owner)
  seen_long = subst (λ (p : Pool). length (states_at p slot) ≡ length (kinds_at p slot.owner)) pool_is
      (subst (λ (s : Place). length (states_at (pool_in owners holders limit width cells) s) ≡ length (kinds_at (pool_in owners holders limit width cells) s.owner)) slot_is
      (states_long owners holders limit width cells free kept (record { owner = owner; number = number }) seen_out))

  pub seen_states : (n : ℕ) → n ≡ length (kinds_at pool slot.owner) → part_of cells (number * width) n ≡ states_at pool slot
  seen_states n few = ap (part_of cells (number * width)) few
      ∙ subst (λ (p : Pool). part_of cells (number * width) (length (kinds_at p slot.owner)) ≡ states_at p slot) pool_is
      (subst (λ (s : Place). part_of cells (number * width) (length (kinds_at (pool_in owners holders limit width cells) s.owner)) ≡ states_at (pool_in owners holders limit width cells) s) slot_is
      (sym (states_are (pool_in owners holders limit width cells) (record { owner = owner; number = number }) seen_out)))

  module _ (states : List AggState) (n : ℕ) (few : n ≡ length (kinds_at pool slot.owner)) (len : length states ≡ n) where
    seen_few : n ≡ length (kinds_at (pool_in owners holders limit width cells) owner)
    seen_few = subst (λ (p : Pool). n ≡ length (kinds_at p owner)) (sym pool_is) (subst (λ (s : Place). n ≡ length (kinds_at pool s.owner)) (sym slot_is) few)

    pub seen_rewrites : Writes slot states pool (pool_in owners holders limit width (with_part cells (number * width) n states))
    seen_rewrites = subst (λ (p : Pool). Writes slot states p (pool_in owners holders limit width (with_part cells (number * width) n states))) pool_is
        (subst (λ (s : Place). Writes s states (pool_in owners holders limit width cells) (pool_in owners holders limit width (with_part cells (number * width) n states))) slot_is
        (row_rewrites owners holders limit width cells free kept (record { owner = owner; number = number }) seen_out states n seen_few len))

    pub seen_row_kept : IsKept owners (pool_in owners holders limit width (with_part cells (number * width) n states)) free
    seen_row_kept = row_kept owners holders limit width cells free kept (record { owner = owner; number = number }) seen_out states n seen_few len

  module _ (at : ℕ) (lt : at < length (kinds_at pool slot.owner)) where
    pub seen_at : at < length (kinds_at (pool_in owners holders limit width cells) owner)
    seen_at = subst (λ (p : Pool). at < length (kinds_at p owner)) (sym pool_is) (subst (λ (s : Place). at < length (kinds_at pool s.owner)) (sym slot_is) lt)

    pub seen_place : number * width + at < length cells
    seen_place = state_place owners holders limit width cells free kept (record { owner = owner; number = number }) seen_out at seen_at

    pub seen_state : (state : AggState) → state ≡ get_or cells (number * width + at) state → slice_get (states_at pool slot) at ≡ Some state
    seen_state state is = subst (λ (p : Pool). slice_get (states_at p slot) at ≡ Some state) pool_is
        (subst (λ (s : Place). slice_get (states_at (pool_in owners holders limit width cells) s) at ≡ Some state) slot_is
        (state_here owners holders limit width cells free kept (record { owner = owner; number = number }) seen_out at seen_at state is))

    pub seen_with : (state : AggState) → pool_in owners holders limit width (set cells (number * width + at) state) ≡ with_state pool slot at state
    seen_with state = λ i. with_state (pool_is i) (slot_is i) at state

    pub seen_writes : (state : AggState) → Writes slot (set (states_at pool slot) at state) pool (with_state pool slot at state)
    seen_writes state = subst (λ (p : Pool). Writes slot (set (states_at p slot) at state) p (with_state p slot at state)) pool_is
        (subst (λ (s : Place). Writes s (set (states_at (pool_in owners holders limit width cells) s) at state) (pool_in owners holders limit width cells) (with_state (pool_in owners holders limit width cells) s at state)) slot_is
        (writes owners holders limit width cells free kept (record { owner = owner; number = number }) seen_out at seen_at state))
