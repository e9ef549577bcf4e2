use Rattle.std.proofs.Common.{◌≡◌, drop}
use Rattle.std.specs.List.{list_any}
use Rattle.segment_plan.specs.Named as spec
use Rattle.segment_plan.proofs.named.aggs_name.Given as goal

abbrev pub invariant-loop-agg : goal.invariant-loop-agg
invariant-loop-agg l = list_any (spec.agg_names l.column) l.aggs ≡ list_any (spec.agg_names l.column) (drop l.agg-index l.aggs)
