use Rattle.std.proofs.Common.{◌≡◌, map, take}
use Rattle.state_columns.specs.Packing.{place}
use Rattle.state_columns.proofs.packing.places.Given as goal

abbrev pub invariant-loop-word : goal.invariant-loop-word
invariant-loop-word l = l.order.items ≡ map (place l.start) (take l.word-index l.words)
