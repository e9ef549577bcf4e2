use Rattle.broker_merge.specs.Ranked.{AreRanked}
use Rattle.broker_merge.proofs.order.ranked.Given as goal

abbrev pub invariant-loop-at : goal.invariant-loop-at
invariant-loop-at l = AreRanked l.places l.width l.at l.ranked.items
