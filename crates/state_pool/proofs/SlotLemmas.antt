-- The slots that owners hold, by their numbers.
use Rattle.std.proofs.Common.{◌≡◌, ◌≢◌, ◌∙◌, ℕ, zero, suc, ◌<◌, ◌≤◌, Bool, true, false, cond, List, [], length, get_or, Option, Some, None, refl, sym, ap, subst, arith, is_some, eq-eqb, inl, inr, ◌∷◌, ◌⊎◌}
use borrow.Author.Tests.{eqb-true}
use Rattle.std.proofs.lemmas.Bool.{cases_lt}
use Rattle.std.specs.FinMap as finite
use Rattle.std.specs.FinMap.{nat_cmp-IsAntisymmetric}
use Rattle.std.specs.Cmp.{nat_cmp_total, unsigned_tied}
use Rattle.std.specs.Ordering.{nat_cmp, eq_by_cmp}
use Rattle.agg_laws.specs.declared.states.AggState.{AggState}
use Rattle.state_pool.specs.Pool.{Pool, is_of, is_held, row_of, slots_below, slots_of}

-- ---- maps by numbers

same_key : (n : ℕ) → eq_by_cmp nat_cmp n n ≡ true
same_key n = unsigned_tied n n ∙ eq-eqb n n refl

other_key : (q n : ℕ) → q ≢ n → eq_by_cmp nat_cmp q n ≡ false
other_key q n ne = by (eq_by_cmp nat_cmp q n) refl
  where
    by : (b : Bool) → eq_by_cmp nat_cmp q n ≡ b → b ≡ false
    by true t = absurd (ne (eqb-true q n (sym (unsigned_tied q n) ∙ t)))
    by false t = refl

apart : (n q : ℕ) → q ≡ n → eq_by_cmp nat_cmp q n ≡ false → ⊥
apart n q e t = let x : true ≡ false = sym (same_key n) ∙ subst (λ q. eq_by_cmp nat_cmp q n ≡ false) e t in cc

module _ {X : Type 0} (m : finite.FinMap nat_cmp X) (n : ℕ) where
  pub put_here : (v : X) → finite.get (finite.insert m n v) n ≡ Some v
  put_here v = finite.get-insert nat_cmp_total m n v n ∙ ap (λ b. cond b (Some v) (finite.get m n)) (same_key n)

  pub put_there : (v : X) (q : ℕ) → q ≢ n → finite.get (finite.insert m n v) q ≡ finite.get m q
  put_there v q ne = finite.get-insert nat_cmp_total m n v q ∙ ap (λ b. cond b (Some v) (finite.get m q)) (other_key q n ne)

  pub gone_here : finite.get (finite.remove m n) n ≡ None
  gone_here = finite.get-remove nat_cmp_total m n n ∙ ap (λ b. cond b None (finite.get m n)) (same_key n)

  pub gone_there : (q : ℕ) → q ≢ n → finite.get (finite.remove m n) q ≡ finite.get m q
  gone_there q ne = finite.get-remove nat_cmp_total m n q ∙ ap (λ b. cond b None (finite.get m q)) (other_key q n ne)

-- maps that agree at one number and at each other
pub same_slots : {X : Type 0} (m k : finite.FinMap nat_cmp X) (n : ℕ) → finite.get m n ≡ finite.get k n
    → ((q : ℕ) → q ≢ n → finite.get m q ≡ finite.get k q) → m ≡ k
same_slots m k n here there = finite.same_map nat_cmp_total nat_cmp-IsAntisymmetric m k (λ q. by q (eq_by_cmp nat_cmp q n) refl)
  where
    by : (q : ℕ) (b : Bool) → eq_by_cmp nat_cmp q n ≡ b → finite.get m q ≡ finite.get k q
    by q true t = let is : n ≡ q = sym (eqb-true q n (sym (unsigned_tied q n) ∙ t)) in subst (λ q. finite.get m q ≡ finite.get k q) is here
    by q false t = there q (λ e. apart n q e t)

-- ---- the slots of an owner

module _ (pool : Pool) (owner : ℕ) where
  past_below : (m q : ℕ) → m ≤ q → finite.get (slots_below pool owner m) q ≡ None
  past_below zero q le = finite.get-empty nat_cmp q
  past_below (suc m) q le = by (is_held pool owner m) (past_below m q (omega (arith, le)))
    where
      by : (b : Bool) → finite.get (slots_below pool owner m) q ≡ None → finite.get (cond b (finite.insert (slots_below pool owner m) m (row_of pool owner m)) (slots_below pool owner m)) q ≡ None
      by true none = put_there (slots_below pool owner m) m (row_of pool owner m) q (λ e. omega (arith, le, e)) ∙ none
      by false none = none

  in_below : (m q : ℕ) → q < m → finite.get (slots_below pool owner m) q ≡ cond (is_held pool owner q) (Some (row_of pool owner q)) None
  in_below zero q lt = absurd (omega (arith, lt))
  in_below (suc m) q lt = at (eq_by_cmp nat_cmp q m) refl (λ less. in_below m q less)
    where
      here : (b : Bool) → finite.get (cond b (finite.insert (slots_below pool owner m) m (row_of pool owner m)) (slots_below pool owner m)) m ≡ cond b (Some (row_of pool owner m)) None
      here true = put_here (slots_below pool owner m) m (row_of pool owner m)
      here false = past_below m m (omega arith)

      there : (b : Bool) → q ≢ m → finite.get (slots_below pool owner m) q ≡ cond (is_held pool owner q) (Some (row_of pool owner q)) None → finite.get (cond b (finite.insert (slots_below pool owner m) m (row_of pool owner m)) (slots_below pool owner m)) q ≡ cond (is_held pool owner q) (Some (row_of pool owner q)) None
      there true ne rest = put_there (slots_below pool owner m) m (row_of pool owner m) q ne ∙ rest
      there false ne rest = rest

      at : (b : Bool) → eq_by_cmp nat_cmp q m ≡ b → (q < m → finite.get (slots_below pool owner m) q ≡ cond (is_held pool owner q) (Some (row_of pool owner q)) None) → finite.get (slots_below pool owner (suc m)) q ≡ cond (is_held pool owner q) (Some (row_of pool owner q)) None
      at true t rest = let is : m ≡ q = sym (eqb-true q m (sym (unsigned_tied q m) ∙ t)) in
          subst (λ q. finite.get (slots_below pool owner (suc m)) q ≡ cond (is_held pool owner q) (Some (row_of pool owner q)) None) is (here (is_held pool owner m))
      at false t rest = let ne : q ≢ m = λ e. apart m q e t in there (is_held pool owner m) ne (rest (omega (arith, lt, ne)))

pub past : (holders : List (Option ℕ)) (q : ℕ) → length holders ≤ q → get_or holders q None ≡ None
past [] q le = refl
past (h ∷ hs) zero le = absurd (omega (arith, le))
past (h ∷ hs) (suc q) le = past hs q (omega (arith, le))

-- an owner holds the slots whose holder it is, with the states in their first cells
pub slot_at : (pool : Pool) (owner q : ℕ) → finite.get (slots_of pool owner) q ≡ cond (is_held pool owner q) (Some (row_of pool owner q)) None
slot_at pool owner q = by (cases_lt q (length pool.holders))
  where
    by : (q < length pool.holders) ⊎ (length pool.holders ≤ q) → finite.get (slots_of pool owner) q ≡ cond (is_held pool owner q) (Some (row_of pool owner q)) None
    by (inl lt) = in_below pool owner (length pool.holders) q lt
    by (inr le) = past_below pool owner (length pool.holders) q le
        ∙ sym (ap (λ (h : Option ℕ). cond (is_of owner h) (Some (row_of pool owner q)) None) (past pool.holders q le))

pub none_some : {X : Type 0} {x : X} → None ≡ Some x → ⊥
none_some e = let x : false ≡ true = ap is_some e in cc

-- a slot that an owner holds
pub holder_of : (pool : Pool) (owner q : ℕ) (states : List AggState) → finite.get (slots_of pool owner) q ≡ Some states → get_or pool.holders q None ≡ Some owner
holder_of pool owner q states e = by (get_or pool.holders q None) refl
  where
    which : (other : ℕ) (b : Bool) → b ≡ is_of owner (Some other) → cond b (Some (row_of pool owner q)) None ≡ Some states → other ≡ owner
    which other true t e = sym (eqb-true owner other (sym t))
    which other false t e = absurd (none_some e)

    by : (h : Option ℕ) → get_or pool.holders q None ≡ h → get_or pool.holders q None ≡ Some owner
    by None h = absurd (none_some (sym (ap (λ (h : Option ℕ). cond (is_of owner h) (Some (row_of pool owner q)) None) h) ∙ sym (slot_at pool owner q) ∙ e))
    by (Some other) h = h ∙ ap Some (which other (is_of owner (Some other)) refl
        (sym (ap (λ (h : Option ℕ). cond (is_of owner h) (Some (row_of pool owner q)) None) h) ∙ sym (slot_at pool owner q) ∙ e))

-- and a number whose holder is an owner
pub held_by : (pool : Pool) (owner q : ℕ) → get_or pool.holders q None ≡ Some owner → finite.get (slots_of pool owner) q ≡ Some (row_of pool owner q)
held_by pool owner q h = slot_at pool owner q ∙ ap (λ (h : Option ℕ). cond (is_of owner h) (Some (row_of pool owner q)) None) h
    ∙ ap (λ b. cond b (Some (row_of pool owner q)) None) (eq-eqb owner owner refl)

pub not_held : (pool : Pool) (owner q : ℕ) → get_or pool.holders q None ≡ None → finite.get (slots_of pool owner) q ≡ None
not_held pool owner q h = slot_at pool owner q ∙ ap (λ (h : Option ℕ). cond (is_of owner h) (Some (row_of pool owner q)) None) h

pub other_held : (pool : Pool) (owner other q : ℕ) → get_or pool.holders q None ≡ Some owner → other ≢ owner → finite.get (slots_of pool other) q ≡ None
other_held pool owner other q h ne = slot_at pool other q ∙ ap (λ (h : Option ℕ). cond (is_of other h) (Some (row_of pool other q)) None) h
    ∙ ap (λ b. cond b (Some (row_of pool other q)) None) (sym (unsigned_tied other owner) ∙ other_key other owner ne)

pub disjoint : (pool : Pool) (a b q : ℕ) (one other : List AggState) → finite.get (slots_of pool a) q ≡ Some one → finite.get (slots_of pool b) q ≡ Some other → a ≡ b
disjoint pool a b q one other p r = let is : Some a ≡ Some b = sym (holder_of pool a q one p) ∙ holder_of pool b q other r in cc
