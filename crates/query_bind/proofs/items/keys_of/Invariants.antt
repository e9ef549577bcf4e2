use Rattle.std.proofs.Common.{◌≡◌, take}
use Rattle.query_bind.specs.Bound.{keys_of}
use Rattle.query_bind.proofs.items.keys_of.Given as goal

abbrev pub invariant-loop-key : goal.invariant-loop-key
invariant-loop-key l = l.order ≡ keys_of l.lists.groups.now l.lists.aggs.now (take l.key-index l.keys)
