use Rattle.std.proofs.Common.{◌+◌, ◌*◌, length}
use Rattle.doc_lists.proofs.Sweep.{Steps}
use Rattle.doc_lists.proofs.sets.left_from.Given as goal

abbrev pub invariant-loop-left : goal.invariant-loop-left
invariant-loop-left l = Steps l.fn.runs l.left l.fn.doc l.step

abbrev pub decreases-loop-left : goal.decreases-loop-left
decreases-loop-left l = 3 * length l.left + l.step
