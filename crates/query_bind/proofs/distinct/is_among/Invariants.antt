use Rattle.std.proofs.Common.{◌≡◌, drop}
use Rattle.std.specs.List.{list_any}
use Rattle.query_bind.proofs.distinct.is_among.Given as goal
use Rattle.table_schema.specs.Aggs.{same_agg}

abbrev pub invariant-loop-other : goal.invariant-loop-other
invariant-loop-other l = list_any (same_agg l.agg) (drop l.other-index l.aggs) ≡ list_any (same_agg l.agg) l.aggs
