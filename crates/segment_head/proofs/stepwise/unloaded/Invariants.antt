use Rattle.std.proofs.Common.{◌≡◌, None, replicate}
use Rattle.segment_head.proofs.stepwise.unloaded.Given as goal

abbrev pub invariant-loop : goal.invariant-loop
invariant-loop g l = l.all.items ≡ replicate l.counter None
