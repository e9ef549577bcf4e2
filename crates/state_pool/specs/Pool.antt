-- Slots of states, which owners take from a pool and give back, each within a quota.
use Rattle.std.specs.Prelude.{◌≡◌, ◌≢◌, ℕ, zero, suc, ◌+◌, ◌*◌, ◌<◌, Bool, true, false, ◌==◌}
use Rattle.std.specs.Prelude.{if◌then◌else◌, List, [], length, take, drop, slice_index_or, slice_set}
use Rattle.std.specs.Prelude.{Option, Some, None, unwrap_or}
use Rattle.std.specs.FinMap as finite
use Rattle.std.specs.Ordering.{nat_cmp}
use Rattle.agg_laws.specs.declared.aggregate_kind.AggKind.{AggKind}
use Rattle.agg_laws.specs.declared.states.AggState.{AggState}
use Rattle.agg_laws.specs.Rows.{units_of}

-- rows of states, by the numbers of their slots
abbrev pub Slots : Type 0
Slots = finite.FinMap nat_cmp (List AggState)

-- a slot: whose it is, and its number
pub record Place : Type 0 where
  pub owner : ℕ
  pub number : ℕ

-- for each owner how many slots it may hold and the kinds of its states; for each number whose slot
-- it is, if it is out; how many cells a number may have; and the cells of all numbers, so many each
-- so far
pub record Pool : Type 0 where
  pub quotas : List ℕ
  pub kinds : List (List AggKind)
  pub holders : List (Option ℕ)
  pub width : ℕ
  pub stride : ℕ
  pub cells : List AggState

-- how many slots an owner may hold
abbrev pub quota_of : Pool → ℕ → ℕ
quota_of pool owner = slice_index_or pool.quotas owner 0

-- the kinds of states that a slot of an owner has
abbrev pub kinds_at : Pool → ℕ → List AggKind
kinds_at pool owner = slice_index_or pool.kinds owner []

-- whether the owner is the one that there is
abbrev pub is_of : ℕ → Option ℕ → Bool
is_of owner None = false
is_of owner (Some other) = owner == other

-- whether the slot with a number is an owner's
abbrev pub is_held : Pool → ℕ → ℕ → Bool
is_held pool owner number = is_of owner (slice_index_or pool.holders number None)

-- the first cells of a number, one for each kind of the owner's states
abbrev pub row_of : Pool → ℕ → ℕ → List AggState
row_of pool owner number =
    take (length (kinds_at pool owner)) (drop (number * pool.stride) pool.cells)

-- the slots of an owner with numbers below one
abbrev pub slots_below : Pool → ℕ → ℕ → Slots
slots_below pool owner zero = finite.empty
slots_below pool owner (suc n) = if is_held pool owner n
    then finite.insert (slots_below pool owner n) n (row_of pool owner n)
    else slots_below pool owner n

-- the slots that an owner holds, each with its states
abbrev pub slots_of : Pool → ℕ → Slots
slots_of pool owner = slots_below pool owner (length pool.holders)

-- how many slots an owner holds
abbrev pub held : Pool → ℕ → ℕ
held pool owner = finite.len (slots_of pool owner)

-- the slot is one that its owner holds
abbrev pub IsOut : Pool → Place → Type 0
IsOut pool slot = finite.contains_key (slots_of pool slot.owner) slot.number ≡ true

-- the states of a slot
abbrev pub states_at : Pool → Place → List AggState
states_at pool slot = unwrap_or (finite.get (slots_of pool slot.owner) slot.number) []

-- an owner holds these slots, and every other owner those that it held, with the same states
pub record Changes (owner : ℕ) (slots : Slots) (old new : Pool) : Type 0 where
  pub quotas : new.quotas ≡ old.quotas
  pub kinds : new.kinds ≡ old.kinds
  pub width : new.width ≡ old.width
  pub own : slots_of new owner ≡ slots
  pub others : (other : ℕ) → other ≢ owner → slots_of new other ≡ slots_of old other

-- an owner has a slot more, which nobody held, with the states of no value
pub record Takes (owner : ℕ) (slot : Place) (old new : Pool) : Type 0 where
  pub owner_is : slot.owner ≡ owner
  pub new_number : (other : ℕ) → finite.get (slots_of old other) slot.number ≡ None
  pub changes : Changes owner
      (finite.insert (slots_of old owner) slot.number (units_of (kinds_at old owner))) old new

-- the owner of a slot no longer holds it
abbrev pub GivesBack : Place → Pool → Pool → Type 0
GivesBack slot old new =
    Changes slot.owner (finite.remove (slots_of old slot.owner) slot.number) old new

-- a slot has these states, and every other slot those that it had
abbrev pub Writes : Place → List AggState → Pool → Pool → Type 0
Writes slot states old new =
    Changes slot.owner (finite.insert (slots_of old slot.owner) slot.number states) old new

-- the pool with another state in a place of a slot
abbrev pub with_state : Pool → Place → ℕ → AggState → Pool
with_state pool slot at state = record {
  quotas = pool.quotas;
  kinds = pool.kinds;
  holders = pool.holders;
  width = pool.width;
  stride = pool.stride;
  cells = slice_set pool.cells (slot.number * pool.stride + at) state;
}

-- an owner has slots of these kinds from now on, and the rest of the pool is as it was
pub record SetsKinds (owner : ℕ) (kinds : List AggKind) (old new : Pool) : Type 0 where
  pub quotas : new.quotas ≡ old.quotas
  pub width : new.width ≡ old.width
  pub own : kinds_at new owner ≡ kinds
  pub others : (other : ℕ) → other ≢ owner → kinds_at new other ≡ kinds_at old other
  pub slots : (other : ℕ) → slots_of new other ≡ slots_of old other

-- a pool in which nobody holds a slot yet: each owner has its quota, and states of these kinds
pub record IsNew (kinds : List AggKind) (quotas : List ℕ) (pool : Pool) : Type 0 where
  pub quotas_are : pool.quotas ≡ quotas
  pub width_is : pool.width ≡ length kinds
  pub kinds_are : (owner : ℕ) → owner < length quotas → kinds_at pool owner ≡ kinds
  pub none_out : (owner : ℕ) → slots_of pool owner ≡ finite.empty
