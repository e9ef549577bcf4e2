-- Tables of groups whose states are in slots of a pool.
use Rattle.std.specs.Prelude.{◌≡◌, ◌≢◌, ◌⊎◌, ◌++◌, ℕ, ◌<◌, nat_eq, Bool, List, [], ◌∷◌, length, map, slice_index_or, Some, None, is_some, if◌then◌else◌}
use Rattle.std.specs.List.{AllByRecursion, IsDistinct}
use Rattle.std.specs.Map.{keys_of, lookup}
use Rattle.values.specs.declared.value.Value.{Value}
use Rattle.agg_laws.specs.declared.states.AggState.{AggState}
use Rattle.agg_laws.specs.Numbers.{most_values}
use Rattle.agg_laws.specs.Rows.{RowFits}
use Rattle.table_schema.specs.declared.query.BoundQuery.{BoundQuery}
use Rattle.state_pool.specs.Pool.{Pool, Place, IsOut, Takes, held, kinds_at, quota_of, slots_of, states_at}
use Rattle.group_table.specs.Groups.{Group, Groups, with_entries, with_states}
use Rattle.group_table.specs.Kept.{KeptGroups, IsNew, IsTable, Merges, group_at, groups_in, key_eq}

-- how many group columns there are, whose slots hold the states, how many groups there may be, and
-- the slot of each key
pub record PooledTable : Type 0 where
  pub columns : ℕ
  pub owner : ℕ
  pub most : ℕ
  pub slots : List (List Value × Place)

-- the group of a key: the states of its slot
abbrev pub group_in : Pool → List Value × Place → Group
group_in pool entry = (entry.0, states_at pool entry.1)

-- a table together with its pool: the groups that it keeps
abbrev pub in_pool : PooledTable → Pool → KeptGroups
in_pool table pool = record {
  columns = table.columns;
  kinds = kinds_at pool table.owner;
  most = table.most;
  groups = map (group_in pool) table.slots;
}

-- the slot is one of an owner's that are out
pub record IsSlotOf (pool : Pool) (owner : ℕ) (slot : Place) : Type 0 where
  pub owned : slot.owner ≡ owner
  pub out : IsOut pool slot

-- the slots of a table are all that its owner holds, each once
pub record HoldsAll (table : PooledTable) (pool : Pool) : Type 0 where
  pub known : table.owner < length pool.quotas
  pub quota : table.most ≡ quota_of pool table.owner
  pub each : AllByRecursion (λ entry. IsSlotOf pool table.owner entry.1) table.slots
  pub apart : IsDistinct nat_eq (map (λ entry. entry.1.number) table.slots)
  pub all : length table.slots ≡ held pool table.owner

-- a table and the pool that holds its states: its slots are all of its owner's, and what it keeps
-- in them are groups
pub record IsTableIn (table : PooledTable) (pool : Pool) : Type 0 where
  pub holds : HoldsAll table pool
  pub is_table : IsTable (in_pool table pool)

-- the other owners hold what they held, every owner has the quota and the kinds that it had, and
-- the pool takes as many kinds as before
pub record KeepsOthers (owner : ℕ) (old new : Pool) : Type 0 where
  pub quotas : new.quotas ≡ old.quotas
  pub kinds : new.kinds ≡ old.kinds
  pub width : new.width ≡ old.width
  pub others : (other : ℕ) → other ≢ owner → slots_of new other ≡ slots_of old other

-- the same table with other slots
abbrev pub with_slots : PooledTable → List (List Value × Place) → PooledTable
with_slots table slots = record {
  columns = table.columns;
  owner = table.owner;
  most = table.most;
  slots = slots;
}

-- the same table but for groups that have come after those that it had
abbrev pub Extends : PooledTable → PooledTable → Type 0
Extends old new = (more : List (List Value × Place)) × (new ≡ with_slots old (old.slots ++ more))

-- a table in a pool is one still, of the same owner, with its groups in their slots and perhaps
-- more after them, and no slot of another owner has changed
pub record StaysIn (old : PooledTable) (old_pool : Pool) (new : PooledTable) (new_pool : Pool)
    : Type 0 where
  pub owner : new.owner ≡ old.owner
  pub extends : Extends old new
  pub table : IsTableIn new new_pool
  pub keeps : KeepsOthers old.owner old_pool new_pool

-- a table of an owner for a query, with its groups over no rows
pub record IsNewIn (query : BoundQuery) (owner : ℕ) (old new : Pool) (table : PooledTable) : Type 0
  where
    pub owner_is : table.owner ≡ owner
    pub table_in : IsTableIn table new
    pub is_new : IsNew query (quota_of old owner) (in_pool table new)

-- ---- a group more

-- the slot of the group at a place
abbrev pub place_at : List (List Value × Place) → ℕ → Place
place_at slots at =
    slice_index_or (map (λ entry. entry.1) slots) at (record { owner = 0; number = 0 })

-- that of a table
abbrev pub slot_at : PooledTable → ℕ → Place
slot_at table at = place_at table.slots at

-- a key that was new has a group without values, in a slot that was taken
pub record Starts (key : List Value) (slot : Place) (old : PooledTable) (old_pool : Pool)
    (new : PooledTable) (new_pool : Pool) : Type 0 where
  pub absent : lookup (key_eq key) old.slots ≡ None
  pub room : length old.slots < old.most
  pub table : new ≡ with_slots old (old.slots ++ (key, slot) ∷ [])
  pub once : IsDistinct key_eq (keys_of (old.slots ++ (key, slot) ∷ []))
  pub takes : Takes old.owner slot old_pool new_pool

-- the place is that of a key's group, and nothing has changed; or the key was new, and its group
-- has begun
pub record Finds (key : List Value) (at : ℕ) (old : PooledTable) (old_pool : Pool)
    (new : PooledTable) (new_pool : Pool) : Type 0 where
  pub within : at < length new.slots
  pub found : ((lookup (key_eq key) old.slots ≡ Some (slot_at new at))
      × (new ≡ old) × (new_pool ≡ old_pool))
      ⊎ Starts key (slot_at new at) old old_pool new new_pool

-- the group at a place has this key, whatever states it has
pub record IsKeyAt (table : PooledTable) (key : List Value) (at : ℕ) : Type 0 where
  pub within : at < length table.slots
  pub is_key : (pool : Pool) → (group_at (in_pool table pool) at).0 ≡ key

-- states were merged into the group of a key, and the table is one in the pool still
pub record MergesIn (key : List Value) (states : List AggState) (old : PooledTable)
    (old_pool : Pool) (new : PooledTable) (new_pool : Pool) : Type 0 where
  pub merges : Merges key states (in_pool old old_pool) (in_pool new new_pool)
  pub stays : StaysIn old old_pool new new_pool

-- ---- a table merged into another one

-- a table in the same pool of the same group columns and kinds, whose slots are another owner's
pub record IsBeside (own : PooledTable) (pool : Pool) (from : PooledTable) : Type 0 where
  pub table : IsTableIn from pool
  pub apart : from.owner ≢ own.owner
  pub columns : from.columns ≡ own.columns
  pub kinds : kinds_at pool from.owner ≡ kinds_at pool own.owner

-- each state that results from merging these groups into others fits
abbrev pub AllFit : Groups → List Group → Type 0
AllFit old groups =
    AllByRecursion (λ group. RowFits (with_states old group.0 group.1) most_values) groups

-- a table with all of some groups merged in
pub record MergesAll (groups : List Group) (old new : KeptGroups) : Type 0 where
  pub columns : new.columns ≡ old.columns
  pub kinds : new.kinds ≡ old.kinds
  pub most : new.most ≡ old.most
  pub groups_are : groups_in new ≡ with_entries (groups_in old) groups

-- whether a key has a slot
abbrev pub has_slot : List (List Value × Place) → List Value → Bool
has_slot slots key = is_some (lookup (key_eq key) slots)

-- those of some keys that are not there, the last one first
abbrev pub new_keys : (List Value → Bool) → List (List Value) → List (List Value)
new_keys there [] = []
new_keys there (key ∷ keys) =
    if there key then new_keys there keys else new_keys there keys ++ key ∷ []

-- a key has a slot and nothing has changed, or it gets one that is taken under the last of the
-- copies
pub record Places (key : List Value) (at owner : ℕ) (old new : List (List Value × Place))
    (old_pool new_pool : Pool) (old_copies new_copies : List (List Value)) : Type 0 where
  pub within : at < length new
  pub found : ((lookup (key_eq key) old ≡ Some (place_at new at))
      × (new ≡ old) × (new_pool ≡ old_pool) × (new_copies ≡ old_copies))
      ⊎ ((lookup (key_eq key) old ≡ None) × (new ≡ old ++ (key, place_at new at) ∷ [])
      × IsDistinct key_eq (keys_of new) × Takes owner (place_at new at) old_pool new_pool
      × (old_copies ≡ new_copies ++ key ∷ []))
