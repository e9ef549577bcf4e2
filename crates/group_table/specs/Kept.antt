-- What is kept of groups.
use Rattle.std.specs.Prelude.{◌≡◌, ℕ, ◌<◌, ◌≤◌, ◌^◌, Bool, List, [], ◌∷◌, length, map, None}
use Rattle.std.specs.Prelude.{slice_index_or}
use Rattle.std.specs.List.{AllByRecursion, IsDistinct}
use Rattle.std.specs.Cmp.Lexicographic.{pointwise}
use Rattle.std.specs.Map.{keys_of}
use Rattle.std.specs.FinMap as finite
use Rattle.values.specs.declared.value.Value.{Value}
use Rattle.values.specs.Order.{value_eq}
use Rattle.agg_laws.specs.declared.aggregate_kind.AggKind.{AggKind}
use Rattle.agg_laws.specs.declared.states.AggState.{AggState}
use Rattle.agg_laws.specs.Numbers.{most_values}
use Rattle.agg_laws.specs.Rows.{kinds_of, RowFits}
use Rattle.agg_laws.specs.Order.{HasValues}
use Rattle.table_schema.specs.declared.query.BoundQuery.{BoundQuery}
use Rattle.group_table.specs.Groups.{Group, Groups, groups_of, merged_in}
use Rattle.group_table.specs.Shape.{shape_of}

-- how many group columns there are, of which kinds the aggregates are, how many groups there may
-- be, and the groups by their places
pub record KeptGroups : Type 0 where
  pub columns : ℕ
  pub kinds : List AggKind
  pub most : ℕ
  pub groups : List Group

-- the groups of a table
abbrev pub groups_in : KeptGroups → Groups
groups_in table = finite.from_entries table.groups

-- the group at a place
abbrev pub group_at : KeptGroups → ℕ → Group
group_at table at = slice_index_or table.groups at ([], [])

-- whether two keys are the same
abbrev pub key_eq : List Value → List Value → Bool
key_eq = pointwise value_eq

-- each state stands for one value at least
abbrev pub HaveValues : List AggState → Type 0
HaveValues [] = Unit {0}
HaveValues (state ∷ states) = HasValues state × HaveValues states

-- a value for each group column, and a state of each kind: of at most 2^29 values, and where there
-- are group columns of one at least
pub record IsGroup (columns : ℕ) (kinds : List AggKind) (group : Group) : Type 0 where
  pub key : length group.0 ≡ columns
  pub states : kinds_of group.1 ≡ kinds
  pub fits : RowFits group.1 most_values
  pub values : 0 < columns → HaveValues group.1

-- what holds of each table: its groups are few enough and of its shape, and no key has two
pub record IsTable (table : KeptGroups) : Type 0 where
  pub at_most : length table.groups ≤ table.most
  pub most_fits : table.most < 2 ^ 32
  pub each : AllByRecursion (IsGroup table.columns table.kinds) table.groups
  pub once : IsDistinct key_eq (keys_of table.groups)

-- a table for the groups of a query
pub record IsTableOf (query : BoundQuery) (table : KeptGroups) : Type 0 where
  pub columns : table.columns ≡ length query.groups
  pub kinds : table.kinds ≡ map (λ agg. agg.kind) query.aggs

-- a table for a query, with its groups over no rows
pub record IsNew (query : BoundQuery) (most : ℕ) (table : KeptGroups) : Type 0 where
  pub of_query : IsTableOf query table
  pub most_is : table.most ≡ most
  pub groups_are : groups_in table ≡ groups_of (shape_of query) []

-- the table with these states merged into the group of a key
pub record Merges (key : List Value) (states : List AggState) (old new : KeptGroups) : Type 0 where
  pub columns : new.columns ≡ old.columns
  pub kinds : new.kinds ≡ old.kinds
  pub most : new.most ≡ old.most
  pub groups : groups_in new ≡ merged_in (groups_in old) key states

-- the key is new to the table
abbrev pub IsNewKey : KeptGroups → List Value → Type 0
IsNewKey table key = finite.get (groups_in table) key ≡ None

-- with some rows there are more groups than there may be, and the table has as many as there may be
pub record FillsUp (Overfull : Type 0) (most : ℕ) (new : KeptGroups) : Type 0 where
  pub over : Overfull
  pub filled : finite.len (groups_in new) ≡ most
