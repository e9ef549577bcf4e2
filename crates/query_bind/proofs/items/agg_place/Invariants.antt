use Rattle.std.proofs.Common.{◌≡◌, ◌+◌, drop}
use Rattle.std.specs.List.{position_or_len}
use Rattle.query_bind.proofs.items.agg_place.Given as goal
use Rattle.table_schema.specs.Aggs.{same_agg}

abbrev pub invariant-loop-place : goal.invariant-loop-place
invariant-loop-place l = position_or_len (same_agg l.agg) l.aggs ≡ l.place + position_or_len (same_agg l.agg) (drop l.place l.aggs)
