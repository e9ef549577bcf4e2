-- Slots that are still held after another one is taken, and a slot that is taken and then written.
use Rattle.std.proofs.Common.{◌≡◌, ◌≢◌, ◌∙◌, ℕ, ◌<◌, ◌≤◌, true, List, sym, ap, subst, arith, ◌⊎◌, inl, inr, is_some}
use Rattle.std.proofs.lemmas.Bool.{cases_lt}
use Rattle.std.specs.FinMap as finite
use Rattle.agg_laws.specs.declared.states.AggState.{AggState}
use Rattle.agg_laws.specs.Rows.{units_of}
use Rattle.state_pool.specs.Pool.{Pool, Place, Slots, slots_of, kinds_at, Writes, Takes, IsOut}
use Rattle.state_pool.proofs.SlotLemmas.{put_here, put_there, same_slots}

-- what is asked of a number holds of every number if it holds of that one and of every other
pub each_number : (P : ℕ → Type 0) (n : ℕ) → P n → ((q : ℕ) → q ≢ n → P q) → (q : ℕ) → P q
each_number P n here there q = by (cases_lt q n) (cases_lt n q)
  where
    by : (q < n) ⊎ (n ≤ q) → (n < q) ⊎ (q ≤ n) → P q
    by (inl l) after = there q (λ e. omega (arith, l, e))
    by (inr ge) (inl l) = there q (λ e. omega (arith, l, e))
    by (inr ge) (inr le) = let same : n ≡ q = omega (arith, ge, le) in subst P same here

pub still_out : (owner : ℕ) (taken : Place) (old new : Pool) → Takes owner taken old new → (holder number : ℕ)
    → finite.contains_key (slots_of old holder) number ≡ true → finite.contains_key (slots_of new holder) number ≡ true
still_out owner taken old new t holder number out = each_number
    (λ holder. finite.contains_key (slots_of old holder) number ≡ true → finite.contains_key (slots_of new holder) number ≡ true) owner own
    (λ holder ne out. ap (λ (m : Slots). finite.contains_key m number) (t.changes.others holder ne) ∙ out) holder out
  where
    own : finite.contains_key (slots_of old owner) number ≡ true → finite.contains_key (slots_of new owner) number ≡ true
    own out = ap (λ (m : Slots). finite.contains_key m number) t.changes.own ∙ each_number
        (λ number. finite.contains_key (slots_of old owner) number ≡ true
        → finite.contains_key (finite.insert (slots_of old owner) taken.number (units_of (kinds_at old owner))) number ≡ true) taken.number
        (λ _. ap is_some (put_here (slots_of old owner) taken.number (units_of (kinds_at old owner))))
        (λ q ne out. ap is_some (put_there (slots_of old owner) taken.number (units_of (kinds_at old owner)) q ne) ∙ out) number out

pub slot_still_out : (owner : ℕ) (taken : Place) (old new : Pool) → Takes owner taken old new → (slot : Place) → IsOut old slot → IsOut new slot
slot_still_out owner taken old new t slot out = still_out owner taken old new t slot.owner slot.number out

-- a slot that was taken is out
pub taken_out : (owner : ℕ) (slot : Place) (old new : Pool) → Takes owner slot old new → IsOut new slot
taken_out owner slot old new t = ap (λ o. finite.contains_key (slots_of new o) slot.number) t.owner_is
    ∙ ap (λ (m : Slots). finite.contains_key m slot.number) t.changes.own
    ∙ ap is_some (put_here (slots_of old owner) slot.number (units_of (kinds_at old owner)))

-- ---- a slot that was taken and then written

module _ (owner : ℕ) (slot : Place) (old mid : Pool) (takes : Takes owner slot old mid) where
  -- to take a slot is to write it, where nobody has it
  taken_owner : (other : ℕ) → other ≡ owner → slots_of mid other ≡ finite.insert (slots_of old other) slot.number (units_of (kinds_at old owner))
  taken_owner other e = subst (λ o. slots_of mid o ≡ finite.insert (slots_of old o) slot.number (units_of (kinds_at old owner))) (sym e) takes.changes.own

  pub taken_writes : Writes slot (units_of (kinds_at old owner)) old mid
  taken_writes = record {
    quotas = takes.changes.quotas;
    kinds = takes.changes.kinds;
    width = takes.changes.width;
    own = taken_owner slot.owner takes.owner_is;
    others = λ other ne. takes.changes.others other (λ is. ne (is ∙ sym takes.owner_is));
  }

  pub filled : (w : List AggState) (new : Pool) → Writes slot w mid new → Writes slot w old new
  filled w new writes = record {
    quotas = writes.quotas ∙ takes.changes.quotas;
    kinds = writes.kinds ∙ takes.changes.kinds;
    width = writes.width ∙ takes.changes.width;
    own = writes.own ∙ ap (λ (m : Slots). finite.insert m slot.number w) taken_writes.own ∙ again (slots_of old slot.owner) (units_of (kinds_at old owner));
    others = λ other ne. writes.others other ne ∙ taken_writes.others other ne;
  }
    where
      again : (m : Slots) (u : List AggState) → finite.insert (finite.insert m slot.number u) slot.number w ≡ finite.insert m slot.number w
      again m u = same_slots (finite.insert (finite.insert m slot.number u) slot.number w) (finite.insert m slot.number w) slot.number
          (put_here (finite.insert m slot.number u) slot.number w ∙ sym (put_here m slot.number w))
          (λ q ne. put_there (finite.insert m slot.number u) slot.number w q ne ∙ put_there m slot.number u q ne ∙ sym (put_there m slot.number w q ne))
