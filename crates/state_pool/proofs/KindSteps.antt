-- A pool once an owner that holds no slot has other kinds.
use Rattle.std.proofs.Common.{◌≡◌, ◌≢◌, ◌∙◌, ℕ, zero, suc, ◌*◌, ◌<◌, ◌≤◌, Bool, true, false, cond, List, [], ◌∷◌, length, get_or, set, take, drop, map, Option, Some, None, refl, sym, ap, subst, arith}
use Rattle.std.proofs.lemmas.List.{length-set, length-map, get_or-set_same, get_or-set_other}
use Rattle.std.proofs.lemmas.List.Sums.{sum_by-set}
use Rattle.std.specs.FinMap as finite
use Rattle.std.specs.FinMap.{nat_cmp-IsAntisymmetric}
use Rattle.std.specs.Cmp.{nat_cmp_total}
use Rattle.std.specs.Ordering.{nat_cmp}
use Rattle.agg_laws.specs.declared.aggregate_kind.AggKind.{AggKind}
use Rattle.agg_laws.specs.declared.states.AggState.{AggState}
use Rattle.state_pool.specs.declared.pool.Owner.{Owner}
use Rattle.state_pool.specs.Pool.{Pool, Slots, is_held, row_of, slots_of, kinds_at, held, SetsKinds}
use Rattle.state_pool.specs.Kept.{IsOwner, IsKept, HasRoom, pool_in, most_of, out_of}
use Rattle.state_pool.proofs.SlotLemmas.{slot_at, none_some, held_by}
use Rattle.state_pool.proofs.HeldLemmas.{each_number}
use Rattle.state_pool.proofs.OwnerLemmas.{own_kept, set_map}

map_set : {X Y : Type 0} (f : X → Y) (xs : List X) (i : ℕ) (y : X) → map f (set xs i y) ≡ set (map f xs) i (f y)
map_set f [] i y = refl
map_set f (x ∷ xs) zero y = refl
map_set f (x ∷ xs) (suc i) y = ap (λ l. f x ∷ l) (map_set f xs i y)

module _ (owners : List Owner) (holders : List (Option ℕ)) (limit width : ℕ) (cells : List AggState) (free : List ℕ)
    (kept : IsKept owners (pool_in owners holders limit width cells) free) (i : ℕ) (own : Owner) (lt : i < length owners) (is : own ≡ get_or owners i own)
    (kinds : List AggKind) (none : held (pool_in owners holders limit width cells) i ≡ 0) where
  abbrev pub with_kinds : Owner
  with_kinds = record { quota = own.quota; held = own.held; kinds = kinds }

  abbrev before : Pool
  before = pool_in owners holders limit width cells

  abbrev after : Pool
  after = pool_in (set owners i with_kinds) holders limit width cells

  kinds_own : kinds_at after i ≡ kinds
  kinds_own = ap (λ (l : List (List AggKind)). get_or l i []) (map_set (λ (o : Owner). o.kinds) owners i with_kinds)
      ∙ get_or-set_same (map (λ (o : Owner). o.kinds) owners) i kinds [] (omega (arith, lt, length-map owners (λ (o : Owner). o.kinds)))

  kinds_other : (other : ℕ) → other ≢ i → kinds_at after other ≡ kinds_at before other
  kinds_other other ne = ap (λ (l : List (List AggKind)). get_or l other []) (map_set (λ (o : Owner). o.kinds) owners i with_kinds)
      ∙ get_or-set_other (map (λ (o : Owner). o.kinds) owners) i other kinds [] ne

  none_here : (q : ℕ) → finite.get (slots_of before i) q ≡ None
  none_here q = ap (λ (m : Slots). finite.get m q) (finite.empty_of_len (slots_of before i) none) ∙ finite.get-empty nat_cmp q

  slots_own : slots_of after i ≡ slots_of before i
  slots_own = finite.same_map nat_cmp_total nat_cmp-IsAntisymmetric (slots_of after i) (slots_of before i)
      (λ q. slot_at after i q ∙ by q (is_held before i q) refl ∙ sym (none_here q))
    where
      by : (q : ℕ) (b : Bool) → is_held before i q ≡ b → cond (is_held before i q) (Some (row_of after i q)) None ≡ None
      by q true h = absurd (none_some (sym (none_here q) ∙ slot_at before i q ∙ ap (λ b. cond b (Some (row_of before i q)) None) h))
      by q false h = ap (λ b. cond b (Some (row_of after i q)) None) h

  slots_other : (other : ℕ) → other ≢ i → slots_of after other ≡ slots_of before other
  slots_other other ne = finite.same_map nat_cmp_total nat_cmp-IsAntisymmetric (slots_of after other) (slots_of before other)
      (λ q. slot_at after other q
      ∙ ap (λ (ks : List AggKind). cond (is_held before other q) (Some (take (length ks) (drop (q * width) cells))) None) (kinds_other other ne)
      ∙ sym (slot_at before other q))

  pub sets_kinds : SetsKinds i kinds (pool_in owners holders limit width cells) (pool_in (set owners i with_kinds) holders limit width cells)
  sets_kinds = record {
    quotas = set_map (λ (o : Owner). o.quota) owners i own with_kinds lt is refl;
    width = refl;
    own = kinds_own;
    others = kinds_other;
    slots = each_number (λ other. slots_of after other ≡ slots_of before other) i slots_own slots_other;
  }

  same_most : most_of (set owners i with_kinds) ≡ most_of owners
  same_most = let e = sum_by-set (λ (o : Owner). o.quota) owners i with_kinds own lt in
      let s : (get_or owners i own).quota ≡ own.quota = ap (λ (o : Owner). o.quota) (sym is) in omega (arith, e, s)

  same_out : out_of (set owners i with_kinds) ≡ out_of owners
  same_out = let e = sum_by-set (λ (o : Owner). o.held) owners i with_kinds own lt in
      let s : (get_or owners i own).held ≡ own.held = ap (λ (o : Owner). o.held) (sym is) in omega (arith, e, s)

  pub kinds_room : (h c f : ℕ) → HasRoom (most_of owners) limit h c f → HasRoom (most_of (set owners i with_kinds)) limit h c f
  kinds_room h c f room = subst (λ n. HasRoom n limit h c f) (sym same_most) room

  pub kinds_kept : length kinds ≤ limit → IsKept (set owners i with_kinds) (pool_in (set owners i with_kinds) holders limit width cells) free
  kinds_kept few = record {
    each = λ at d less. each_number (λ at. at < length owners → IsOwner after at (get_or (set owners i with_kinds) at d)) i
        (λ l. here d) (λ at ne l. other at d l ne) at (omega (arith, less, length-set owners i with_kinds));
    known = λ number owner e. omega (arith, kept.known number owner e, length-set owners i with_kinds);
    narrow = λ number owner e. each_number (λ owner. get_or holders number None ≡ Some owner → length (kinds_at after owner) ≤ width) i
        (λ own_e. absurd (none_some (sym (none_here number) ∙ held_by before i number own_e)))
        (λ other ne other_e. subst (λ (ks : List AggKind). length ks ≤ width) (sym (kinds_other other ne)) (kept.narrow number other other_e)) owner e;
    within = kept.within;
    free_are = kept.free_are;
    all_cells = kept.all_cells;
    all_numbers = omega (arith, kept.all_numbers, same_out);
    few_numbers = omega (arith, kept.few_numbers, same_most);
  }
    where
      here : (d : Owner) → IsOwner after i (get_or (set owners i with_kinds) i d)
      here d = let o = own_kept owners holders limit width cells free kept i own lt is in
          subst (IsOwner after i) (sym (get_or-set_same owners i with_kinds d lt)) (record {
            counted = o.counted ∙ ap finite.len (sym slots_own);
            within = o.within;
            fits = few;
          })

      other : (at : ℕ) (d : Owner) → at < length owners → at ≢ i → IsOwner after at (get_or (set owners i with_kinds) at d)
      other at d l ne = let o = kept.each at d l in
          subst (IsOwner after at) (sym (get_or-set_other owners i at with_kinds d ne)) (record {
            counted = o.counted ∙ ap finite.len (sym (slots_other at ne));
            within = o.within;
            fits = o.fits;
          })
