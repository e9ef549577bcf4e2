-- The groups of a query over rows, of which more and more are added.
use Rattle.std.specs.Prelude.{◌≡◌, ◌≤◌, ◌+◌, ◌-◌, ◌<◌, ℕ, Bool, List, [], filter, cond, IfSome, ◌∷◌, Result, Err, OnOk}
use Rattle.std.specs.FinMap as finite
use Rattle.values.specs.declared.value.Value.{Value}
use Rattle.agg_laws.specs.Numbers.{most_values}
use Rattle.agg_laws.specs.Rows.{RowFits}
use Rattle.table_schema.specs.Conditions.{all_hold}
use Rattle.table_schema.specs.declared.query.BoundQuery.{BoundQuery}
use Rattle.group_table.specs.Groups.{Adds, Groups}
use Rattle.group_table.specs.Kept.{KeptGroups, IsTableOf, groups_in}
use Rattle.group_table.specs.Shape.{shape_of}
use Rattle.group_table.specs.declared.fault.TableFault.{TableFault}
use Rattle.group_table.specs.declared.fault.TableFault.TheVariants.{TooManyGroups}

-- the rows that satisfy the filter of a query
abbrev pub selected : BoundQuery → List (List Value) → List (List Value)
selected query rows = filter (λ row. all_hold row query.conjuncts) rows

-- no aggregate of the groups is of more than so many values
abbrev pub HaveAtMost : ℕ → Groups → Type 0
HaveAtMost n groups = (key : List Value) → IfSome (finite.get groups key)
    (λ states. RowFits states n)

-- what a table is after `count` rows more, of which these are added: it is one for the same query,
-- and its groups are those of before with these rows in them, whatever they were
pub record AddsRows (query : BoundQuery) (count : ℕ) (rows : List (List Value))
    (old new : KeptGroups) : Type 0 where
  pub of_query : IsTableOf query new
  pub most : new.most ≡ old.most
  pub groups : Adds (shape_of query) rows (groups_in old) (groups_in new)
  pub fits : (n : ℕ) → HaveAtMost n (groups_in old) → HaveAtMost (n + count) (groups_in new)

-- with these rows in them there are more groups than the table may have
abbrev pub IsOverfull : BoundQuery → List (List Value) → KeptGroups → Type 0
IsOverfull query rows table = (new : Groups) → Adds (shape_of query) rows (groups_in table) new
    → table.most < finite.len new

-- a row, where it is marked
abbrev pub marked : Bool → List Value → List (List Value)
marked mark row = cond mark (row ∷ []) []

-- so many rows may be added to these groups of a query: no aggregate is then of too many values
pub record HasRoom (query : BoundQuery) (count : ℕ) (table : KeptGroups) : Type 0 where
  pub of_query : IsTableOf query table
  pub at_most : count ≤ most_values
  pub fits : HaveAtMost (most_values - count) (groups_in table)

-- these rows, of `count`, were added, unless there are too many groups
pub record AddsOrFull {A : Type 0} (query : BoundQuery) (count : ℕ) (rows : List (List Value))
    (old new : KeptGroups) (result : Result A TableFault) : Type 0 where
  pub added : OnOk result (AddsRows query count rows old new)
  pub full : result ≡ Err TooManyGroups → IsOverfull query rows old
