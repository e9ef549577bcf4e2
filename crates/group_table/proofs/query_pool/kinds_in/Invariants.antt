use Rattle.std.proofs.Common.{◌≡◌, map, take}
use Rattle.group_table.proofs.query_pool.kinds_in.Given as goal

abbrev pub invariant-loop-agg : goal.invariant-loop-agg
invariant-loop-agg l = l.kinds ≡ map (λ agg. agg.kind) (take l.agg-index l.aggs)
