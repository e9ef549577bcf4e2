use Rattle.std.proofs.Common.{◌≡◌, take, map}
use Rattle.query_bind.specs.Bound.{label_of}
use Rattle.query_bind.proofs.labels.labels.Given as goal

abbrev pub invariant-loop-item : goal.invariant-loop-item
invariant-loop-item l = l.labels ≡ map label_of (take l.item-index l.items)
