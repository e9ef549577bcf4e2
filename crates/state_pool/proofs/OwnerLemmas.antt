-- A pool after one of its slots is taken, given back or written.
use Rattle.std.proofs.Common.{◌≡◌, ◌≢◌, ◌∙◌, ℕ, zero, suc, ◌+◌, ◌*◌, ◌-◌, ◌<◌, ◌≤◌, ◌⊎◌, inl, inr, Bool, true, false, cond, List, [], ◌∷◌, ◌++◌, length, get_or, set, take, drop, map, Option, Some, None, refl, sym, ap, subst, arith, is_some, length-append, unwrap_or}
use borrow.Author.Tests.{eqb-true}
use Rattle.std.proofs.lemmas.Bool.{cases_lt}
use Rattle.std.proofs.lemmas.List.{length-set, get_or-set_same, get_or-set_other, get_or_default}
use Rattle.std.proofs.lemmas.List.Sums.{sum_by-set, get_or-le-sum_by, sum_by-cons}
use Rattle.std.proofs.lemmas.Nat.{mul-le}
use Rattle.std.specs.FinMap as finite
use Rattle.std.specs.Cmp.{nat_cmp_total}
use Rattle.std.specs.Ordering.{nat_cmp}
use Rattle.agg_laws.specs.declared.aggregate_kind.AggKind.{AggKind}
use Rattle.agg_laws.specs.declared.states.AggState.{AggState}
use Rattle.agg_laws.specs.Rows.{units_of}
use Rattle.state_pool.specs.declared.pool.Owner.{Owner}
use Rattle.state_pool.specs.Pool.{Pool, Place, Slots, is_of, row_of, slots_of, kinds_at, quota_of, Changes, Takes, GivesBack, IsOut, states_at}
use Rattle.state_pool.specs.Kept.{AreFree, TakesCells, TakesNumber, IsOwner, IsKept, HasRoom, pool_in, most_of, out_of}
use Rattle.state_pool.proofs.SlotLemmas.{put_here, put_there, gone_here, gone_there, same_slots, slot_at, none_some, held_by, not_held, other_held, holder_of}
use Rattle.state_pool.proofs.CellLemmas.{in_range, more_free}

-- ---- one number changed

-- holders and rows are the same at every number but one
pub record Moved (number : ℕ) (old new : Pool) : Type 0 where
  pub quotas : new.quotas ≡ old.quotas
  pub kinds : new.kinds ≡ old.kinds
  pub width : new.width ≡ old.width
  pub stride : new.stride ≡ old.stride
  pub others : (q : ℕ) → q ≢ number → get_or new.holders q None ≡ get_or old.holders q None
  pub rows : (q few : ℕ) → q ≢ number → q < length old.holders → few ≤ old.stride
      → take few (drop (q * old.stride) new.cells) ≡ take few (drop (q * old.stride) old.cells)

module _ (number : ℕ) (old new : Pool) (m : Moved number old new)
    (fits : (q owner : ℕ) → get_or old.holders q None ≡ Some owner → length (kinds_at old owner) ≤ old.stride) where
  row_kept : (owner q : ℕ) → q ≢ number → get_or old.holders q None ≡ Some owner → row_of new owner q ≡ row_of old owner q
  row_kept owner q ne e = (λ i. take (length (get_or (m.kinds i) owner [])) (drop (q * m.stride i) new.cells))
      ∙ m.rows q (length (kinds_at old owner)) ne (in_range old.holders q owner e) (fits q owner e)

  kept : (owner q : ℕ) → q ≢ number → finite.get (slots_of new owner) q ≡ finite.get (slots_of old owner) q
  kept owner q ne = slot_at new owner q ∙ by (get_or old.holders q None) refl ∙ sym (slot_at old owner q)
    where
      by : (h : Option ℕ) → get_or old.holders q None ≡ h
          → cond (is_of owner (get_or new.holders q None)) (Some (row_of new owner q)) None ≡ cond (is_of owner (get_or old.holders q None)) (Some (row_of old owner q)) None
      by None e = ap (λ (h : Option ℕ). cond (is_of owner h) (Some (row_of new owner q)) None) (m.others q ne ∙ e)
          ∙ sym (ap (λ (h : Option ℕ). cond (is_of owner h) (Some (row_of old owner q)) None) e)
      by (Some other) e = ap (λ (h : Option ℕ). cond (is_of owner h) (Some (row_of new owner q)) None) (m.others q ne ∙ e)
          ∙ its (is_of owner (Some other)) refl ∙ sym (ap (λ (h : Option ℕ). cond (is_of owner h) (Some (row_of old owner q)) None) e)
        where
          its : (b : Bool) → is_of owner (Some other) ≡ b → cond b (Some (row_of new owner q)) None ≡ cond b (Some (row_of old owner q)) None
          its true t = let same : owner ≡ other = eqb-true owner other t in ap Some (row_kept owner q ne (e ∙ ap Some (sym same)))
          its false t = refl

  pub stays : (owner : ℕ) → finite.get (slots_of new owner) number ≡ finite.get (slots_of old owner) number → slots_of new owner ≡ slots_of old owner
  stays owner here = same_slots (slots_of new owner) (slots_of old owner) number here (λ q ne. kept owner q ne)

  pub puts : (owner : ℕ) (states : List AggState) → finite.get (slots_of new owner) number ≡ Some states
      → slots_of new owner ≡ finite.insert (slots_of old owner) number states
  puts owner states here = same_slots (slots_of new owner) (finite.insert (slots_of old owner) number states) number
      (here ∙ sym (put_here (slots_of old owner) number states)) (λ q ne. kept owner q ne ∙ sym (put_there (slots_of old owner) number states q ne))

  pub goes : (owner : ℕ) → finite.get (slots_of new owner) number ≡ None → slots_of new owner ≡ finite.remove (slots_of old owner) number
  goes owner here = same_slots (slots_of new owner) (finite.remove (slots_of old owner) number) number
      (here ∙ sym (gone_here (slots_of old owner) number)) (λ q ne. kept owner q ne ∙ sym (gone_there (slots_of old owner) number q ne))

-- ---- owners

pub map_at : {X Y : Type 0} (f : X → Y) (xs : List X) (i : ℕ) (d : X) (e : Y) → i < length xs → get_or (map f xs) i e ≡ f (get_or xs i d)
map_at f [] i d e lt = absurd (omega (arith, lt))
map_at f (x ∷ xs) zero d e lt = refl
map_at f (x ∷ xs) (suc i) d e lt = map_at f xs i d e (omega (arith, lt))

pub set_map : {X Y : Type 0} (f : X → Y) (xs : List X) (i : ℕ) (x y : X) → i < length xs → x ≡ get_or xs i x → f y ≡ f x → map f (set xs i y) ≡ map f xs
set_map f [] i x y lt is e = absurd (omega (arith, lt))
set_map f (z ∷ xs) zero x y lt is e = λ j. (e ∙ ap f is) j ∷ map f xs
set_map f (z ∷ xs) (suc i) x y lt is e = λ j. f z ∷ set_map f xs i x y (omega (arith, lt)) is e j

abbrev pub blank : Owner
blank = record { quota = 0; held = 0; kinds = [] }

-- owners hold fewer slots than they may where one of them does
fewer : (owners : List Owner) (i : ℕ) → ((at : ℕ) → at < length owners → (get_or owners at blank).held ≤ (get_or owners at blank).quota)
    → out_of owners ≤ most_of owners
fewer [] i each = omega arith
fewer (o ∷ os) i each = omega (
  arith,
  sum_by-cons (λ (o : Owner). o.held) o os,
  sum_by-cons (λ (o : Owner). o.quota) o os,
  each 0 (omega arith),
  fewer os i (λ at lt. each (suc at) (omega (arith, lt))),
)

pub fewer_out : (owners : List Owner) (i : ℕ) → ((at : ℕ) → at < length owners → (get_or owners at blank).held ≤ (get_or owners at blank).quota)
    → i < length owners → (get_or owners i blank).held < (get_or owners i blank).quota → out_of owners < most_of owners
fewer_out [] i each lt less = absurd (omega (arith, lt))
fewer_out (o ∷ os) zero each lt less = omega (
  arith,
  sum_by-cons (λ (o : Owner). o.held) o os,
  sum_by-cons (λ (o : Owner). o.quota) o os,
  less,
  fewer os 0 (λ at lt. each (suc at) (omega (arith, lt))),
)
fewer_out (o ∷ os) (suc i) each lt less = omega (
  arith,
  sum_by-cons (λ (o : Owner). o.held) o os,
  sum_by-cons (λ (o : Owner). o.quota) o os,
  each 0 (omega arith),
  fewer_out os i (λ at lt. each (suc at) (omega (arith, lt))) (omega (arith, lt)) less,
)

module _ (owners : List Owner) (holders : List (Option ℕ)) (limit width : ℕ) (cells : List AggState) (free : List ℕ)
    (kept : IsKept owners (pool_in owners holders limit width cells) free) where
  -- an owner that is kept at a place
  module _ (i : ℕ) (own : Owner) (lt : i < length owners) (is : own ≡ get_or owners i own) where
    pub own_kept : IsOwner (pool_in owners holders limit width cells) i own
    own_kept = subst (IsOwner (pool_in owners holders limit width cells) i) (sym is) (kept.each i own lt)

    pub own_kinds : kinds_at (pool_in owners holders limit width cells) i ≡ own.kinds
    own_kinds = map_at (λ (o : Owner). o.kinds) owners i own [] lt ∙ ap (λ (o : Owner). o.kinds) (sym is)

    pub own_quota : quota_of (pool_in owners holders limit width cells) i ≡ own.quota
    own_quota = map_at (λ (o : Owner). o.quota) owners i own 0 lt ∙ ap (λ (o : Owner). o.quota) (sym is)

    -- the owners with another count at that place
    module _ (count : ℕ) where
      abbrev pub counted : Owner
      counted = record { quota = own.quota; held = count; kinds = own.kinds }

      pub same_quotas : map (λ (o : Owner). o.quota) (set owners i counted) ≡ map (λ (o : Owner). o.quota) owners
      same_quotas = set_map (λ (o : Owner). o.quota) owners i own counted lt is refl

      pub same_kinds : map (λ (o : Owner). o.kinds) (set owners i counted) ≡ map (λ (o : Owner). o.kinds) owners
      same_kinds = set_map (λ (o : Owner). o.kinds) owners i own counted lt is refl

      pub same_most : most_of (set owners i counted) ≡ most_of owners
      same_most = let e = sum_by-set (λ (o : Owner). o.quota) owners i counted own lt in
          let s : (get_or owners i own).quota ≡ own.quota = ap (λ (o : Owner). o.quota) (sym is) in omega (arith, e, s)

      pub out_set : out_of (set owners i counted) + own.held ≡ out_of owners + count
      out_set = let e = sum_by-set (λ (o : Owner). o.held) owners i counted own lt in
          let s : (get_or owners i own).held ≡ own.held = ap (λ (o : Owner). o.held) (sym is) in omega (arith, e, s)

      -- what is kept once the slots of that owner change
      module _ (new_holders : List (Option ℕ)) (new_cells : List AggState) (new_free : List ℕ) (slots : Slots)
          (changes : Changes i slots (pool_in owners holders limit width cells) (pool_in (set owners i counted) new_holders limit width new_cells)) where
        pub kept_after : count ≡ finite.len slots → count ≤ own.quota
            → ((number owner : ℕ) → get_or new_holders number None ≡ Some owner → owner < length owners)
            → ((number owner : ℕ) → get_or new_holders number None ≡ Some owner → length (kinds_at (pool_in owners holders limit width cells) owner) ≤ width)
            → AreFree new_holders new_free → length new_cells ≡ length new_holders * width
            → length new_holders ≡ out_of (set owners i counted) + length new_free → length new_holders ≤ most_of owners
            → IsKept (set owners i counted) (pool_in (set owners i counted) new_holders limit width new_cells) new_free
        kept_after len within known narrow frees all_cells all_numbers few = record {
          each = λ at d less. by at d (omega (arith, less, length-set owners i counted)) (cases_lt at i) (cases_lt i at);
          known = λ number owner e. omega (arith, known number owner e, length-set owners i counted);
          narrow = λ number owner e. subst (λ (kss : List (List AggKind)). length (get_or kss owner []) ≤ width) (sym same_kinds) (narrow number owner e);
          within = kept.within;
          free_are = frees;
          all_cells = all_cells;
          all_numbers = all_numbers;
          few_numbers = omega (arith, few, same_most);
        }
          where
            other : (at : ℕ) (d : Owner) → at < length owners → at ≢ i
                → IsOwner (pool_in (set owners i counted) new_holders limit width new_cells) at (get_or (set owners i counted) at d)
            other at d less ne = let o = kept.each at d less in
                subst (IsOwner (pool_in (set owners i counted) new_holders limit width new_cells) at) (sym (get_or-set_other owners i at counted d ne)) (record {
                  counted = o.counted ∙ ap finite.len (sym (changes.others at ne));
                  within = o.within;
                  fits = o.fits;
                })

            by : (at : ℕ) (d : Owner) → at < length owners → (at < i) ⊎ (i ≤ at) → (i < at) ⊎ (at ≤ i)
                → IsOwner (pool_in (set owners i counted) new_holders limit width new_cells) at (get_or (set owners i counted) at d)
            by at d less (inl before) after = other at d less (λ e. omega (arith, before, e))
            by at d less (inr ge) (inl after) = other at d less (λ e. omega (arith, after, e))
            by at d less (inr ge) (inr le) = let same : i ≡ at = omega (arith, ge, le) in
                subst (λ at. IsOwner (pool_in (set owners i counted) new_holders limit width new_cells) at (get_or (set owners i counted) at d)) same
                (subst (IsOwner (pool_in (set owners i counted) new_holders limit width new_cells) i) (sym (get_or-set_same owners i counted d lt)) (record {
                  counted = len ∙ ap finite.len (sym changes.own);
                  within = within;
                  fits = own_kept.fits;
                }))

module _ (owners : List Owner) (holders : List (Option ℕ)) (limit width : ℕ) (cells : List AggState) (free : List ℕ)
    (kept : IsKept owners (pool_in owners holders limit width cells) free) (i : ℕ) (own : Owner) (lt : i < length owners) (is : own ≡ get_or owners i own) where
  within_each : (at : ℕ) → at < length owners → (get_or owners at blank).held ≤ (get_or owners at blank).quota
  within_each at less = (kept.each at blank less).within

  -- ---- a slot is taken

  some_left : own.held < own.quota → out_of owners < most_of owners
  some_left less = fewer_out owners i within_each lt (subst (λ (o : Owner). o.held < o.quota) (is ∙ get_or_default owners i own blank lt) less)

  -- where none is free there is room for one more
  pub room_for : (most_room cells_room free_room : ℕ) → HasRoom (most_of owners) limit most_room cells_room free_room
      → own.held < own.quota → free ≡ [] → HasRoom (length holders + 1) width most_room cells_room free_room
  room_for h c f room less none =
      let count : length holders ≡ out_of owners + length free = kept.all_numbers in
      let empty : length free ≡ 0 = ap length none in
      let out : out_of owners < most_of owners = some_left less in
      let one : length holders + 1 ≤ most_of owners = omega (arith, count, empty, out) in
      let cells : (length holders + 1) * width ≤ most_of owners * limit = mul-le (length holders + 1) width (most_of owners) limit one kept.within in
      record {
        small = omega (arith, one, room.small);
        holders_fit = omega (arith, one, room.holders_fit);
        cells_fit = omega (arith, cells, room.cells_fit);
        free_fit = omega (arith, one, room.free_fit);
      }

  module _ (number : ℕ) (new_holders : List (Option ℕ)) (new_cells : List AggState) (new_free : List ℕ)
      (cells_taken : TakesCells i width own.kinds number holders new_holders cells new_cells) where
    old_pool : Pool
    old_pool = pool_in owners holders limit width cells

    new_pool : Pool
    new_pool = pool_in (set owners i (counted owners holders limit width cells free kept i own lt is (own.held + 1))) new_holders limit width new_cells

    moved : Moved number old_pool new_pool
    unfolding old_pool new_pool
    moved = record {
      quotas = same_quotas owners holders limit width cells free kept i own lt is (own.held + 1);
      kinds = same_kinds owners holders limit width cells free kept i own lt is (own.held + 1);
      width = refl;
      stride = refl;
      others = cells_taken.others;
      rows = cells_taken.rows;
    }

    row_is : row_of new_pool i number ≡ units_of (kinds_at old_pool i)
    unfolding old_pool new_pool
    row_is = ap (λ (ks : List AggKind). take (length ks) (drop (number * width) new_cells))
        (ap (λ (kss : List (List AggKind)). get_or kss i []) (same_kinds owners holders limit width cells free kept i own lt is (own.held + 1)) ∙ own_kinds owners holders limit width cells free kept i own lt is)
        ∙ cells_taken.units ∙ ap units_of (sym (own_kinds owners holders limit width cells free kept i own lt is))

    pub takes : Takes i (record { owner = i; number = number }) (pool_in owners holders limit width cells)
        (pool_in (set owners i (counted owners holders limit width cells free kept i own lt is (own.held + 1))) new_holders limit width new_cells)
    unfolding old_pool new_pool
    takes = record {
      owner_is = refl;
      new_number = λ other. not_held old_pool other number cells_taken.unheld;
      changes = record {
        quotas = moved.quotas;
        kinds = moved.kinds;
        width = refl;
        own = puts number old_pool new_pool moved kept.narrow i (units_of (kinds_at old_pool i))
            (held_by new_pool i number cells_taken.own ∙ ap Some row_is);
        others = λ other ne. stays number old_pool new_pool moved kept.narrow other
            (other_held new_pool i other number cells_taken.own ne ∙ sym (not_held old_pool other number cells_taken.unheld));
      };
    }

    pub taken_kept : own.held < own.quota → length own.kinds ≤ width → TakesNumber holders new_holders free new_free
        → IsKept (set owners i (counted owners holders limit width cells free kept i own lt is (own.held + 1)))
        (pool_in (set owners i (counted owners holders limit width cells free kept i own lt is (own.held + 1))) new_holders limit width new_cells) new_free
    unfolding old_pool new_pool
    taken_kept less few numbers = kept_after owners holders limit width cells free kept i own lt is (own.held + 1) new_holders new_cells new_free
        (finite.insert (slots_of old_pool i) number (units_of (kinds_at old_pool i))) takes.changes
        len (omega (arith, less)) (λ q owner e. known q owner e (cases_lt q number) (cases_lt number q))
        (λ q owner e. narrow q owner e (cases_lt q number) (cases_lt number q)) numbers.frees cells_taken.all_cells
        (omega (arith, numbers.count, out_set owners holders limit width cells free kept i own lt is (own.held + 1), kept.all_numbers))
        (omega (arith, numbers.few, kept.few_numbers, kept.all_numbers, some_left less))
      where
        len : own.held + 1 ≡ finite.len (finite.insert (slots_of old_pool i) number (units_of (kinds_at old_pool i)))
        len = ap (λ n. n + 1) (own_kept owners holders limit width cells free kept i own lt is).counted
            ∙ sym (ap (λ (o : Option (List AggState)). cond (is_some o) (finite.len (slots_of old_pool i)) (finite.len (slots_of old_pool i) + 1)) (not_held old_pool i number cells_taken.unheld))
            ∙ sym (finite.len-insert nat_cmp_total (slots_of old_pool i) number (units_of (kinds_at old_pool i)))

        other : (q owner : ℕ) → get_or new_holders q None ≡ Some owner → q ≢ number → owner < length owners
        other q owner e ne = kept.known q owner (sym (cells_taken.others q ne) ∙ e)

        known : (q owner : ℕ) → get_or new_holders q None ≡ Some owner → (q < number) ⊎ (number ≤ q) → (number < q) ⊎ (q ≤ number) → owner < length owners
        known q owner e (inl l) after = other q owner e (λ is. omega (arith, l, is))
        known q owner e (inr ge) (inl l) = other q owner e (λ is. omega (arith, l, is))
        known q owner e (inr ge) (inr le) = let same : number ≡ q = omega (arith, ge, le) in
            let o : Some owner ≡ Some i = sym e ∙ sym (ap (λ q. get_or new_holders q None) same) ∙ cells_taken.own in
            let n : owner ≡ i = cc in omega (arith, n, lt)

        narrow : (q owner : ℕ) → get_or new_holders q None ≡ Some owner → (q < number) ⊎ (number ≤ q) → (number < q) ⊎ (q ≤ number)
            → length (kinds_at (pool_in owners holders limit width cells) owner) ≤ width
        narrow q owner e (inl l) after = kept.narrow q owner (sym (cells_taken.others q (λ is. omega (arith, l, is))) ∙ e)
        narrow q owner e (inr ge) (inl l) = kept.narrow q owner (sym (cells_taken.others q (λ is. omega (arith, l, is))) ∙ e)
        narrow q owner e (inr ge) (inr le) = let same : number ≡ q = omega (arith, ge, le) in
            let o : Some owner ≡ Some i = sym e ∙ sym (ap (λ q. get_or new_holders q None) same) ∙ cells_taken.own in
            let n : owner ≡ i = cc in
            subst (λ (ks : List AggKind). length ks ≤ width) (sym (ap (kinds_at (pool_in owners holders limit width cells)) n ∙ own_kinds owners holders limit width cells free kept i own lt is)) few

  -- ---- a slot is given back

  module _ (number : ℕ) (out : finite.contains_key (slots_of (pool_in owners holders limit width cells) i) number ≡ true)
      (here : get_or holders number None ≡ Some i) where
    pub some_held : 1 ≤ own.held
    some_held = by (cases_lt 0 own.held)
      where
        by : (0 < own.held) ⊎ (own.held ≤ 0) → 1 ≤ own.held
        by (inl more) = more
        by (inr none) =
            let count : own.held ≡ finite.len (slots_of (pool_in owners holders limit width cells) i) = (own_kept owners holders limit width cells free kept i own lt is).counted in
            let zero_len : finite.len (slots_of (pool_in owners holders limit width cells) i) ≡ 0 = omega (arith, count, none) in
            let empty = finite.empty_of_len (slots_of (pool_in owners holders limit width cells) i) zero_len in
            let x : false ≡ true = sym (ap is_some (ap (λ (m : Slots). finite.get m number) empty ∙ finite.get-empty nat_cmp number)) ∙ out in cc

    pub free_fits : (most_room cells_room free_room : ℕ) → HasRoom (most_of owners) limit most_room cells_room free_room → length free + 1 ≤ free_room
    free_fits h c f room =
        let some : own.held ≤ out_of owners = subst (λ (o : Owner). o.held ≤ out_of owners) (sym is) (get_or-le-sum_by (λ (o : Owner). o.held) owners i own lt) in
        omega (arith, some, some_held, kept.all_numbers, kept.few_numbers, room.free_fit)

    before : Pool
    before = pool_in owners holders limit width cells

    after : Pool
    after = pool_in (set owners i (counted owners holders limit width cells free kept i own lt is (own.held - 1))) (set holders number None) limit width cells

    vacated : Moved number before after
    unfolding before after
    vacated = record {
      quotas = same_quotas owners holders limit width cells free kept i own lt is (own.held - 1);
      kinds = same_kinds owners holders limit width cells free kept i own lt is (own.held - 1);
      width = refl;
      stride = refl;
      others = λ q ne. get_or-set_other holders number q None None ne;
      rows = λ q few ne less le. refl;
    }

    gone : get_or (set holders number None) number None ≡ None
    gone = get_or-set_same holders number None None (in_range holders number i here)

    pub gives : GivesBack (record { owner = i; number = number }) (pool_in owners holders limit width cells)
        (pool_in (set owners i (counted owners holders limit width cells free kept i own lt is (own.held - 1))) (set holders number None) limit width cells)
    unfolding before after
    gives = record {
      quotas = vacated.quotas;
      kinds = vacated.kinds;
      width = refl;
      own = goes number before after vacated kept.narrow i (not_held after i number gone);
      others = λ other ne. stays number before after vacated kept.narrow other
          (not_held after other number gone ∙ sym (other_held before i other number here ne));
    }

    pub given_kept : IsKept (set owners i (counted owners holders limit width cells free kept i own lt is (own.held - 1)))
        (pool_in (set owners i (counted owners holders limit width cells free kept i own lt is (own.held - 1))) (set holders number None) limit width cells) (free ++ number ∷ [])
    unfolding before after
    given_kept = kept_after owners holders limit width cells free kept i own lt is (own.held - 1) (set holders number None) cells (free ++ number ∷ [])
        (finite.remove (slots_of before i) number) gives len (omega (arith, (own_kept owners holders limit width cells free kept i own lt is).within))
        (λ q owner e. known q owner e (cases_lt q number) (cases_lt number q)) (λ q owner e. narrow q owner e (cases_lt q number) (cases_lt number q))
        (more_free holders free number i kept.free_are here)
        (kept.all_cells ∙ ap (λ n. n * width) (sym (length-set holders number None)))
        (omega (arith, length-set holders number None, length-append free (number ∷ []), kept.all_numbers, some_held, out_set owners holders limit width cells free kept i own lt is (own.held - 1)))
        (omega (arith, length-set holders number None, kept.few_numbers))
      where
        len : own.held - 1 ≡ finite.len (finite.remove (slots_of before i) number)
        len = ap (λ n. n - 1) (own_kept owners holders limit width cells free kept i own lt is).counted
            ∙ sym (ap (λ b. cond b (finite.len (slots_of before i) - 1) (finite.len (slots_of before i))) out)
            ∙ sym (finite.len-remove nat_cmp_total (slots_of before i) number)

        other : (q owner : ℕ) → get_or (set holders number None) q None ≡ Some owner → q ≢ number → owner < length owners
        other q owner e ne = kept.known q owner (sym (get_or-set_other holders number q None None ne) ∙ e)

        known : (q owner : ℕ) → get_or (set holders number None) q None ≡ Some owner → (q < number) ⊎ (number ≤ q) → (number < q) ⊎ (q ≤ number) → owner < length owners
        known q owner e (inl l) after = other q owner e (λ is. omega (arith, l, is))
        known q owner e (inr ge) (inl l) = other q owner e (λ is. omega (arith, l, is))
        known q owner e (inr ge) (inr le) = let same : number ≡ q = omega (arith, ge, le) in
            absurd (none_some (sym gone ∙ ap (λ q. get_or (set holders number None) q None) same ∙ e))

        narrow : (q owner : ℕ) → get_or (set holders number None) q None ≡ Some owner → (q < number) ⊎ (number ≤ q) → (number < q) ⊎ (q ≤ number)
            → length (kinds_at (pool_in owners holders limit width cells) owner) ≤ width
        narrow q owner e (inl l) after = kept.narrow q owner (sym (get_or-set_other holders number q None None (λ is. omega (arith, l, is))) ∙ e)
        narrow q owner e (inr ge) (inl l) = kept.narrow q owner (sym (get_or-set_other holders number q None None (λ is. omega (arith, l, is))) ∙ e)
        narrow q owner e (inr ge) (inr le) = let same : number ≡ q = omega (arith, ge, le) in
            absurd (none_some (sym gone ∙ ap (λ q. get_or (set holders number None) q None) same ∙ e))

-- ---- a slot that is out

some_of : {X : Type 0} (o : Option X) → is_some o ≡ true → (x : X) × (o ≡ Some x)
some_of None e = let x : false ≡ true = e in cc
some_of (Some x) e = (x, refl)

pub out_holder : (pool : Pool) (slot : Place) → IsOut pool slot → get_or pool.holders slot.number None ≡ Some slot.owner
out_holder pool slot out = let s = some_of (finite.get (slots_of pool slot.owner) slot.number) out in holder_of pool slot.owner slot.number s.0 s.1

pub states_are : (pool : Pool) (slot : Place) → IsOut pool slot → states_at pool slot ≡ row_of pool slot.owner slot.number
states_are pool slot out = ap (λ (o : Option (List AggState)). unwrap_or o []) (held_by pool slot.owner slot.number (out_holder pool slot out))
