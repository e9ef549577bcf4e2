use Rattle.std.proofs.Common.{◌-◌, ◌≤◌}
use Rattle.value_ids.proofs.RunLemmas.{SetUpTo}
use Rattle.value_ids.proofs.mask.set_run.Given as goal

abbrev pub invariant-loop-id : goal.invariant-loop-id
invariant-loop-id l = record {
  within : l.id ≤ l.end;
  bits : SetUpTo l.fn.from l.id l.fn.mask l.mask;
}

abbrev pub decreases-loop-id : goal.decreases-loop-id
decreases-loop-id l = l.end - l.id
