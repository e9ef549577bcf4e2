-- What a table keeps in a pool, while other owners of the pool take slots and give them back.
use Rattle.std.proofs.Common.{◌≡◌, ◌≢◌, ◌∙◌, ℕ, ◌<◌, List, [], ◌∷◌, length, map, get_or, sym, ap, subst, refl, unwrap_or}
use Rattle.std.specs.FinMap as finite
use Rattle.std.specs.List.{AllByRecursion}
use Rattle.values.specs.declared.value.Value.{Value}
use Rattle.state_pool.specs.Pool.{Place, Pool, Slots, held, kinds_at, quota_of, slots_of, states_at}
use Rattle.group_table.specs.Kept.{IsTable}
use Rattle.group_table.specs.Pooled.{HoldsAll, IsSlotOf, IsTableIn, KeepsOthers, PooledTable, group_in, in_pool}
use Rattle.cursors.specs.Kept.{KeepsAside}

-- ---- slots of an owner

module _ (owner : ℕ) (old new : Pool) (same : slots_of new owner ≡ slots_of old owner) where
  slots_as : (slot : Place) → slot.owner ≡ owner → slots_of new slot.owner ≡ slots_of old slot.owner
  slots_as slot is = subst (λ o. slots_of new o ≡ slots_of old o) (sym is) same

  pub states_as : (slot : Place) → slot.owner ≡ owner → states_at new slot ≡ states_at old slot
  states_as slot is = ap (λ (m : Slots). unwrap_or (finite.get m slot.number) []) (slots_as slot is)

  slot_still : (slot : Place) → IsSlotOf old owner slot → IsSlotOf new owner slot
  slot_still slot s = record {
    owned = s.owned;
    out = ap (λ (m : Slots). finite.contains_key m slot.number) (slots_as slot s.owned) ∙ s.out;
  }

  pub each_still : (es : List (List Value × Place)) → AllByRecursion (λ e. IsSlotOf old owner e.1) es → AllByRecursion (λ e. IsSlotOf new owner e.1) es
  each_still [] each = tt
  each_still (e ∷ es) each = (slot_still e.1 each.0, each_still es each.1)

-- ---- a table

module _ (t : PooledTable) (old new : Pool) (quotas : new.quotas ≡ old.quotas) (kinds : kinds_at new t.owner ≡ kinds_at old t.owner)
    (slots : slots_of new t.owner ≡ slots_of old t.owner) where
  groups_still : (es : List (List Value × Place)) → AllByRecursion (λ e. IsSlotOf old t.owner e.1) es → map (group_in new) es ≡ map (group_in old) es
  groups_still [] each = refl
  groups_still (e ∷ es) each = λ i. (e.0, states_as t.owner old new slots e.1 each.0.owned i) ∷ groups_still es each.1 i

  pub same_in : HoldsAll t old → in_pool t new ≡ in_pool t old
  same_in holds = λ i. record {
    columns = t.columns;
    kinds = kinds i;
    most = t.most;
    groups = groups_still t.slots holds.each i;
  }

  pub holds_still : HoldsAll t old → HoldsAll t new
  holds_still holds = record {
    known = subst (λ (qs : List ℕ). t.owner < length qs) (sym quotas) holds.known;
    quota = holds.quota ∙ sym (ap (λ qs. get_or qs t.owner 0) quotas);
    each = each_still t.owner old new slots t.slots holds.each;
    apart = holds.apart;
    all = holds.all ∙ ap finite.len (sym slots);
  }

  pub still_in : IsTableIn t old → IsTableIn t new
  still_in table = record {
    holds = holds_still table.holds;
    is_table = subst IsTable (sym (same_in table.holds)) table.is_table;
  }

-- ---- what is kept aside

-- but for one owner, and so but for both
pub aside_first : (one two : ℕ) (old new : Pool) → KeepsOthers one old new → KeepsAside one two old new
aside_first one two old new k = record {
  quotas = k.quotas;
  width = k.width;
  kinds = λ other ne no. ap (λ kss. get_or kss other []) k.kinds;
  slots = λ other ne no. k.others other ne;
}

pub aside_of : (one two : ℕ) (old new : Pool) → KeepsAside two two old new → KeepsAside one two old new
aside_of one two old new k = record {
  quotas = k.quotas;
  width = k.width;
  kinds = λ other ne no. k.kinds other no no;
  slots = λ other ne no. k.slots other no no;
}

pub aside_same : (one two : ℕ) (pool : Pool) → KeepsAside one two pool pool
aside_same one two pool = record { quotas = refl; width = refl; kinds = λ other ne no. refl; slots = λ other ne no. refl }
