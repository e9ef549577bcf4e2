use Rattle.std.proofs.Common.{◌≡◌, take}
use Rattle.query_bind.specs.Bound.{items_of}
use Rattle.query_bind.proofs.items.items_of.Given as goal

abbrev pub invariant-loop-term : goal.invariant-loop-term
invariant-loop-term l = l.items ≡ items_of l.lists.groups.now l.lists.aggs.now (take l.term-index l.terms)
