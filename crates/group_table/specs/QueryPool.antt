-- The pool of one query.
use Rattle.std.specs.Prelude.{◌≡◌, ◌≤◌, ◌<◌, ℕ, List, length, map}
use Rattle.std.specs.FinMap as finite
use Rattle.values.specs.declared.value.Value.{Value}
use Rattle.table_schema.specs.declared.query.BoundQuery.{BoundQuery}
use Rattle.state_pool.specs.Pool.{Pool, held, kinds_at, quota_of}
use Rattle.group_table.specs.Groups.{groups_of}
use Rattle.group_table.specs.Shape.{shape_of}

-- a quota that no rows pass without having more groups than there may be
pub record Limits (query : BoundQuery) (most quota : ℕ) : Type 0 where
  pub within : quota ≤ most
  pub same : (rows : List (List Value)) → quota < finite.len (groups_of (shape_of query) rows)
      → most < finite.len (groups_of (shape_of query) rows)

-- a pool of one owner, which holds no slot, with as many as a query may have groups
pub record IsPoolFor (query : BoundQuery) (most : ℕ) (pool : Pool) : Type 0 where
  pub one : length pool.quotas ≡ 1
  pub kinds : kinds_at pool 0 ≡ map (λ agg. agg.kind) query.aggs
  pub none : held pool 0 ≡ 0
  pub some : 1 ≤ quota_of pool 0
  pub limits : Limits query most (quota_of pool 0)
