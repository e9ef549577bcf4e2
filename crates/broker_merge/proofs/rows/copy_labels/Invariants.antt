use Rattle.std.proofs.Common.{◌≡◌, take}
use Rattle.broker_merge.proofs.rows.copy_labels.Given as goal

abbrev pub invariant-loop-label : goal.invariant-loop-label
invariant-loop-label l = l.copy ≡ take l.label-index l.labels
