use Rattle.std.proofs.Common.{◌≡◌, ◌++◌, map, take}
use Rattle.group_table.specs.Kept.{group_at}
use Rattle.broker_merge.specs.Rank.{placed_at}
use Rattle.broker_merge.proofs.order.push_places.Given as goal

abbrev pub invariant-loop-key : goal.invariant-loop-key
invariant-loop-key l = l.places.items ≡ l.initial.places.items ++ map (placed_at (group_at l.table l.at)) (take l.key-index l.order)
