-- The groups of a table as they were, whose states stand in a list.
use Rattle.std.specs.Prelude.{◌≡◌, List, length, flat_map}
use Rattle.std.specs.List.{AllByRecursion}
use Rattle.agg_laws.specs.declared.states.AggState.{AggState}
use Rattle.state_pool.specs.Pool.{Pool, kinds_at, states_at}
use Rattle.group_table.specs.Pooled.{PooledTable, HoldsAll}

-- the list has the states that the groups of a table had in a pool, group after group, of each as
-- many as its owner has kinds
pub record HasSaved (was : PooledTable) (before : Pool) (states : List AggState) : Type 0 where
  pub table : HoldsAll was before
  pub each : AllByRecursion (λ entry. length (states_at before entry.1)
      ≡ length (kinds_at before was.owner)) was.slots
  pub states_are : states ≡ flat_map (λ entry. states_at before entry.1) was.slots
