use Rattle.std.proofs.Common.{◌-◌, length}
use Rattle.inverted_lists.proofs.CutLemmas.{Walked}
use Rattle.inverted_lists.proofs.sorted.end_of_run.Given as goal

abbrev pub invariant-loop-end : goal.invariant-loop-end
invariant-loop-end l = Walked l.ids l.id l.end

abbrev pub decreases-loop-end : goal.decreases-loop-end
decreases-loop-end l = length l.ids - l.end
