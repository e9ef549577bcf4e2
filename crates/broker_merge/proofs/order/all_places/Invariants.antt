use Rattle.std.proofs.Common.{◌≡◌, flat_map, take}
use Rattle.group_table.specs.Kept.{group_at}
use Rattle.broker_merge.specs.Rank.{places_of}
use Rattle.broker_merge.proofs.order.all_places.Given as goal

abbrev pub invariant-loop-at : goal.invariant-loop-at
invariant-loop-at l = l.places.items ≡ flat_map (λ at. places_of l.order (group_at l.table at)) (take l.at-index l.kept)
