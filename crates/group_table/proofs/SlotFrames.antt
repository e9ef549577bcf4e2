-- The slots of an owner once one of them is taken, written or given back: which are out, and what states they have.
use Rattle.std.proofs.Common.{◌≡◌, ◌≢◌, ◌∙◌, ℕ, ◌+◌, ◌-◌, Bool, true, false, cond, nat_eq, List, [], ◌∷◌, ◌++◌, map, get_or, Option, Some, None, refl, sym, ap, subst, arith, is_some, unwrap_or, append-nil, append_assoc}
use borrow.Author.Tests.{eqb-true, eqb-false}
use Rattle.std.proofs.lemmas.Bool.{false≢true}
use Rattle.std.specs.FinMap as finite
use Rattle.std.specs.Cmp.{nat_cmp_total}
use Rattle.std.specs.Ordering.{nat_cmp, eq_by_cmp}
use Rattle.std.specs.List.{AllByRecursion, IsDistinct}
use Rattle.agg_laws.specs.declared.states.AggState.{AggState}
use Rattle.state_pool.specs.Pool.{Pool, Place, Slots, Changes, Writes, GivesBack, IsOut, held, kinds_at, quota_of, slots_of, states_at}
use Rattle.state_pool.proofs.SlotLemmas.{put_here, put_there, gone_there}
use Rattle.group_table.specs.Pooled.{PooledTable, IsSlotOf, IsTableIn, KeepsOthers, StaysIn, Extends, with_slots}

-- ---- numbers

pub apart_from : (n m : ℕ) → nat_eq n m ≡ false → m ≢ n
apart_from n m e is = omega (arith, eqb-false n m e, is)

pub apart_of : (n m : ℕ) → m ≢ n → nat_eq n m ≡ false
apart_of n m ne = by (nat_eq n m) refl
  where
    by : (b : Bool) → nat_eq n m ≡ b → b ≡ false
    by true e = absurd (ne (sym (eqb-true n m e)))
    by false e = refl

none_out : {o : Option (List AggState)} → o ≡ None → is_some o ≡ true → ⊥
none_out e out = absurd (false≢true (sym (ap is_some e) ∙ out))

-- ---- what changes let every owner keep

pub same_quota : (owner : ℕ) (slots : Slots) (old new : Pool) → Changes owner slots old new → (other : ℕ) → quota_of new other ≡ quota_of old other
same_quota owner slots old new c other = ap (λ qs. get_or qs other 0) c.quotas

pub same_kinds : (owner : ℕ) (slots : Slots) (old new : Pool) → Changes owner slots old new → (other : ℕ) → kinds_at new other ≡ kinds_at old other
same_kinds owner slots old new c other = ap (λ ks. get_or ks other []) c.kinds

pub keeps_changed : (owner : ℕ) (slots : Slots) (old new : Pool) → Changes owner slots old new → KeepsOthers owner old new
keeps_changed owner slots old new c = record { quotas = c.quotas; kinds = c.kinds; width = c.width; others = c.others }

pub keeps_same : (owner : ℕ) (pool : Pool) → KeepsOthers owner pool pool
keeps_same owner pool = record { quotas = refl; kinds = refl; width = refl; others = λ other ne. refl }

pub keeps_both : (owner : ℕ) (old mid new : Pool) → KeepsOthers owner old mid → KeepsOthers owner mid new → KeepsOthers owner old new
keeps_both owner old mid new a b = record {
  quotas = b.quotas ∙ a.quotas;
  kinds = b.kinds ∙ a.kinds;
  width = b.width ∙ a.width;
  others = λ other ne. b.others other ne ∙ a.others other ne;
}

-- ---- a slot with other states

module _ (slot : Place) (w : List AggState) (old new : Pool) (writes : Writes slot w old new) where
  get_here : finite.get (slots_of new slot.owner) slot.number ≡ Some w
  get_here = ap (λ (m : Slots). finite.get m slot.number) writes.own ∙ put_here (slots_of old slot.owner) slot.number w

  pub states_here : states_at new slot ≡ w
  states_here = ap (λ (o : Option (List AggState)). unwrap_or o []) get_here

  get_there : (other : Place) → other.owner ≡ slot.owner → other.number ≢ slot.number
      → finite.get (slots_of new other.owner) other.number ≡ finite.get (slots_of old other.owner) other.number
  get_there other e ne = ap (λ o. finite.get (slots_of new o) other.number) e
      ∙ ap (λ (m : Slots). finite.get m other.number) writes.own ∙ put_there (slots_of old slot.owner) slot.number w other.number ne
      ∙ sym (ap (λ o. finite.get (slots_of old o) other.number) e)

  pub states_there : (other : Place) → other.owner ≡ slot.owner → other.number ≢ slot.number → states_at new other ≡ states_at old other
  states_there other e ne = ap (λ (o : Option (List AggState)). unwrap_or o []) (get_there other e ne)

  still : (q : ℕ) → finite.contains_key (slots_of old slot.owner) q ≡ true → finite.contains_key (slots_of new slot.owner) q ≡ true
  still q out = ap (λ (m : Slots). finite.contains_key m q) writes.own
      ∙ ap is_some (finite.get-insert nat_cmp_total (slots_of old slot.owner) slot.number w q) ∙ by (eq_by_cmp nat_cmp q slot.number)
    where
      by : (b : Bool) → is_some (cond b (Some w) (finite.get (slots_of old slot.owner) q)) ≡ true
      by true = refl
      by false = out

  -- the slots of an owner are its own still
  pub own_still : (owner : ℕ) (other : Place) → slot.owner ≡ owner → IsSlotOf old owner other → IsSlotOf new owner other
  own_still owner other e s = record {
    owned = s.owned;
    out = ap (λ o. finite.contains_key (slots_of new o) other.number) (s.owned ∙ sym e)
        ∙ still other.number (ap (λ o. finite.contains_key (slots_of old o) other.number) (e ∙ sym s.owned) ∙ s.out);
  }

  pub own_here : (owner : ℕ) → slot.owner ≡ owner → IsSlotOf new owner slot
  own_here owner e = record { owned = e; out = ap is_some get_here }

  held_with : held new slot.owner ≡ cond (finite.contains_key (slots_of old slot.owner) slot.number) (held old slot.owner) (held old slot.owner + 1)
  held_with = ap finite.len writes.own ∙ finite.len-insert nat_cmp_total (slots_of old slot.owner) slot.number w

  pub held_same : (owner : ℕ) → slot.owner ≡ owner → IsOut old slot → held new owner ≡ held old owner
  held_same owner e out = subst (λ o. held new o ≡ held old o) e (held_with ∙ ap (λ b. cond b (held old slot.owner) (held old slot.owner + 1)) out)

  pub held_more : (owner : ℕ) → slot.owner ≡ owner → finite.get (slots_of old slot.owner) slot.number ≡ None → held new owner ≡ held old owner + 1
  held_more owner e none = subst (λ o. held new o ≡ held old o + 1) e
      (held_with ∙ ap (λ b. cond b (held old slot.owner) (held old slot.owner + 1)) (ap is_some none))

-- ---- a slot given back

module _ (slot : Place) (old new : Pool) (gives : GivesBack slot old new) where
  pub given_still : (owner : ℕ) (other : Place) → slot.owner ≡ owner → other.number ≢ slot.number → IsSlotOf old owner other → IsSlotOf new owner other
  given_still owner other e ne s = record {
    owned = s.owned;
    out = ap (λ o. finite.contains_key (slots_of new o) other.number) (s.owned ∙ sym e)
        ∙ ap (λ (m : Slots). finite.contains_key m other.number) gives.own
        ∙ ap is_some (gone_there (slots_of old slot.owner) slot.number other.number ne)
        ∙ ap (λ o. finite.contains_key (slots_of old o) other.number) (e ∙ sym s.owned) ∙ s.out;
  }

  pub held_less : (owner : ℕ) → slot.owner ≡ owner → IsOut old slot → held new owner ≡ held old owner - 1
  held_less owner e out = subst (λ o. held new o ≡ held old o - 1) e (ap finite.len gives.own
      ∙ finite.len-remove nat_cmp_total (slots_of old slot.owner) slot.number
      ∙ ap (λ b. cond b (held old slot.owner - 1) (held old slot.owner)) out)

-- ---- lists of numbers that differ

pub push_apart : (ns : List ℕ) (n : ℕ) → AllByRecursion (λ m. nat_eq n m ≡ false) ns → IsDistinct nat_eq ns → IsDistinct nat_eq (ns ++ n ∷ [])
unfolding IsDistinct
push_apart [] n none d = (tt, tt)
push_apart (m ∷ ns) n none d = (last m ns none.1 d.0 (apart_of m n (λ is. apart_from n m none.0 (sym is))), push_apart ns n none.1 d.1)
  where
    last : (m : ℕ) (ns : List ℕ) → AllByRecursion (λ k. nat_eq n k ≡ false) ns → AllByRecursion (λ k. nat_eq m k ≡ false) ns → nat_eq m n ≡ false
        → AllByRecursion (λ k. nat_eq m k ≡ false) (ns ++ n ∷ [])
    last m [] none all e = (e, tt)
    last m (k ∷ ns) none all e = (all.0, last m ns none.1 all.1 e)

pub init_apart : (ns : List ℕ) (n : ℕ) → IsDistinct nat_eq (ns ++ n ∷ []) → IsDistinct nat_eq ns × AllByRecursion (λ m. nat_eq n m ≡ false) ns
unfolding IsDistinct
init_apart [] n d = (tt, tt)
init_apart (m ∷ ns) n d =
    let rest = init_apart ns n d.1 in
    let ends = split m ns d.0 in
    ((ends.0, rest.0), (apart_of n m (λ is. apart_from m n ends.1 (sym is)), rest.1))
  where
    split : (m : ℕ) (ns : List ℕ) → AllByRecursion (λ k. nat_eq m k ≡ false) (ns ++ n ∷ []) → AllByRecursion (λ k. nat_eq m k ≡ false) ns × (nat_eq m n ≡ false)
    split m [] all = (tt, all.0)
    split m (k ∷ ns) all = let rest = split m ns all.1 in ((all.0, rest.0), rest.1)

-- a number that no slot of an owner has is none of these
pub taken_apart : (owner : ℕ) (old : Pool) (n : ℕ) → finite.get (slots_of old owner) n ≡ None → (slots : List Place)
    → AllByRecursion (IsSlotOf old owner) slots → AllByRecursion (λ m. nat_eq n m ≡ false) (map (λ (s : Place). s.number) slots)
taken_apart owner old n none [] each = tt
taken_apart owner old n none (s ∷ slots) each = (apart_of n s.number differs, taken_apart owner old n none slots each.1)
  where
    differs : s.number ≢ n
    differs is = none_out (ap (λ q. finite.get (slots_of old owner) q) is ∙ none)
        (ap (λ o. finite.contains_key (slots_of old o) s.number) (sym each.0.owned) ∙ each.0.out)

-- ---- a table that stays one

pub extends_same : (t : PooledTable) → Extends t t
extends_same t = ([], sym (ap (with_slots t) (append-nil t.slots)))

pub extends_both : (t u v : PooledTable) → Extends t u → Extends u v → Extends t v
extends_both t u v (one, a) (two, b) = (one ++ two, b ∙ ap (λ (w : PooledTable). with_slots w (w.slots ++ two)) a ∙ ap (with_slots t) (append_assoc t.slots one two))

pub stays_same : (t : PooledTable) (pool : Pool) → IsTableIn t pool → StaysIn t pool t pool
stays_same t pool table = record { owner = refl; extends = extends_same t; table = table; keeps = keeps_same t.owner pool }

pub stays_both : (t u v : PooledTable) (old mid new : Pool) → StaysIn t old u mid → StaysIn u mid v new → StaysIn t old v new
stays_both t u v old mid new a b = record {
  owner = b.owner ∙ a.owner;
  extends = extends_both t u v a.extends b.extends;
  table = b.table;
  keeps = keeps_both t.owner old mid new a.keeps (subst (λ o. KeepsOthers o mid new) a.owner b.keeps);
}

-- nothing has changed
pub stays_equal : (t u : PooledTable) (old new : Pool) → IsTableIn t old → u ≡ t → new ≡ old → StaysIn t old u new
stays_equal t u old new table same kept = subst (λ (u : PooledTable). StaysIn t old u new) (sym same)
    (subst (λ (p : Pool). StaysIn t old t p) (sym kept) (stays_same t old table))
