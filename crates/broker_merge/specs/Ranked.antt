-- Places of groups, each with what the group is compared by.
use Rattle.std.specs.Prelude.{◌≡◌, ◌<◌, ◌^◌, ℕ, List, length, map, take}
use Rattle.std.specs.Borrow.{Bor}
use Rattle.std.specs.Fork.{slice_chunk}
use Rattle.std.specs.List.{All, range_with_len, IsDistinct}
use Rattle.std.specs.Map.{keys_of}
use Rattle.table_schema.specs.declared.query.OrderKey.{OrderKey}
use Rattle.group_table.specs.Groups.{Group}
use Rattle.group_table.specs.Kept.{KeptGroups, group_at, key_eq}
use Rattle.broker_merge.specs.Order.{in_order}
use Rattle.broker_merge.specs.Rank.{Placed}

-- the places from 0 on, each with its share of all that is compared
pub record AreRanked (places : List Placed) (width count : ℕ)
    (ranked : List (Bor (List Placed) × ℕ)) : Type 0 where
  pub each : All (λ r. r.0.now ≡ slice_chunk places width r.1) ranked
  pub all : map (λ r. r.1) ranked ≡ range_with_len 0 count

-- places of a table that begin with those of the first so many of some groups, in their order
pub record BeginInOrder (table : KeptGroups) (groups : List Group) (order : List OrderKey)
    (most : ℕ) (places : List ℕ) : Type 0 where
  pub below : All (λ at. at < length table.groups) places
  pub begins : take most (map (group_at table) places) ≡ take most (in_order order groups)

-- the groups at these places of a table, of which each has a key of its own
pub record AreKept (table : KeptGroups) (places : List ℕ) : Type 0 where
  pub below : All (λ at. at < length table.groups) places
  pub once : IsDistinct key_eq (keys_of (map (group_at table) places))
  pub few : length places < 2 ^ 32
