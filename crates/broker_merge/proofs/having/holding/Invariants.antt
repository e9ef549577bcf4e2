use Rattle.std.proofs.Common.{◌≡◌}
use Rattle.std.specs.List.{filter, range_with_len}
use Rattle.group_table.specs.Kept.{group_at}
use Rattle.broker_merge.specs.Having.{group_holds}
use Rattle.broker_merge.proofs.having.holding.Given as goal

abbrev pub invariant-loop-at : goal.invariant-loop-at
invariant-loop-at l = l.places.items ≡ filter (λ at. group_holds (group_at l.table at) l.having) (range_with_len 0 l.at)
