use Rattle.std.proofs.Common.{◌≡◌, map, slice_index, take}
use Rattle.broker_merge.proofs.order.places_in.Given as goal

abbrev pub invariant-loop-number : goal.invariant-loop-number
invariant-loop-number l = l.places.items ≡ map (λ r. slice_index l.kept r.1) (take l.number-index l.ranked)
