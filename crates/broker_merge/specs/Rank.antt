-- What groups are compared by, taken out of them once.
pub mod Laws
use Rattle.std.specs.Prelude.{ℕ, ◌<◌, Bool, true, false, List, [], ◌∷◌, ◌++◌, map, length}
use Rattle.std.specs.List.{All}
use Rattle.std.specs.declared.cmp.Ordering.{Ordering}
use Rattle.std.specs.declared.cmp.Ordering.TheVariants.{Less, Greater}
use Rattle.std.specs.Ordering.{ordering_reverse, nat_cmp}
use Rattle.values.specs.declared.value.Value.{Value}
use Rattle.values.specs.Order.{value_order}
use Rattle.agg_laws.specs.declared.states.AggState.{AggState}
use Rattle.agg_laws.specs.Numbers.{most_values}
use Rattle.agg_laws.specs.States.{Fits}
use Rattle.agg_laws.specs.Order.{HasValues, state_order}
use Rattle.table_schema.specs.Conditions.{cell}
use Rattle.table_schema.specs.declared.query.Item.{Item}
use Rattle.table_schema.specs.declared.query.Item.TheVariants as item
use Rattle.table_schema.specs.declared.query.OrderKey.{OrderKey}
use Rattle.group_table.specs.Groups.{Group, key_order}
use Rattle.group_table.specs.Kept.{IsTable, KeptGroups}
use Rattle.broker_merge.specs.Order.{state_in}
use Rattle.broker_merge.specs.declared.rank.Rank.{Rank}
use Rattle.broker_merge.specs.declared.rank.Rank.TheVariants as rank

-- a value of a key, an aggregate, or a whole key
pub data Seen : Type 0 where
  OfValue : (value : Value) → Seen
  OfState : (state : AggState) → Seen
  OfKey : (key : List Value) → Seen

-- what a group is compared by in one place, and whether the greatest comes first
pub record Placed : Type 0 where
  pub greatest_first : Bool
  pub seen : Seen

-- what a group shows at an item
abbrev pub seen_at : Group → Item → Seen
seen_at group (item.Group place) = OfValue (cell group.0 place)
seen_at group (item.Agg place) = OfState (state_in group place)

-- what a group is compared by for one key of an ORDER BY
abbrev pub placed_at : Group → OrderKey → Placed
placed_at group key = record {
  greatest_first = key.descending;
  seen = seen_at group key.item;
}

-- and in the end, its key
abbrev pub key_place : Group → Placed
key_place group = record { greatest_first = false; seen = OfKey group.0 }

-- all that a group is compared by
abbrev pub places_of : List OrderKey → Group → List Placed
places_of order group = map (placed_at group) order ++ (key_place group ∷ [])

-- the item is a group column of a table, or an aggregate of it
abbrev pub IsItem : KeptGroups → Item → Type 0
IsItem table (item.Group place) = place < table.columns
IsItem table (item.Agg place) = place < length table.kinds

-- what a reference shows
abbrev pub seen_of : Rank → Seen
seen_of (rank.Value value) = OfValue value.now
seen_of (rank.State state) = OfState state.now
seen_of (rank.Key key) = OfKey key.now

-- the state can be compared: it stands for some values, and not for too many
pub record IsFair (state : AggState) : Type 0 where
  pub values : HasValues state
  pub fits : Fits state most_values

-- an aggregate is one that can be compared
abbrev pub AreFair : Seen → Type 0
AreFair (OfValue value) = Unit {0}
AreFair (OfState state) = IsFair state
AreFair (OfKey key) = Unit {0}

-- which of the three it is
abbrev pub sort_of : Seen → ℕ
sort_of (OfValue value) = 0
sort_of (OfState state) = 1
sort_of (OfKey key) = 2

-- two of one sort by what they are, and others by their sorts
abbrev pub seen_order : Seen → Seen → Ordering
seen_order (OfValue a) (OfValue b) = value_order a b
seen_order (OfState a) (OfState b) = state_order a b
seen_order (OfKey a) (OfKey b) = key_order a b
seen_order a b = nat_cmp (sort_of a) (sort_of b)

-- the least first before the greatest first
abbrev pub turned_order : Bool → Bool → Seen → Seen → Ordering
turned_order false false a b = seen_order a b
turned_order true true a b = ordering_reverse (seen_order a b)
turned_order false true a b = Less
turned_order true false a b = Greater

-- two groups at one key of ORDER BY, each with its direction
abbrev pub placed_order : Placed → Placed → Ordering
placed_order a b = turned_order a.greatest_first b.greatest_first a.seen b.seen

-- a table has a group at this place
pub record HasGroup (table : KeptGroups) (at : ℕ) : Type 0 where
  pub is_table : IsTable table
  pub within : at < length table.groups

-- the groups of a table, which has group columns, can be put in this order
pub record IsOrderOf (table : KeptGroups) (order : List OrderKey) : Type 0 where
  pub is_table : IsTable table
  pub grouped : 0 < table.columns
  pub keys : All (λ k. IsItem table k.item) order
