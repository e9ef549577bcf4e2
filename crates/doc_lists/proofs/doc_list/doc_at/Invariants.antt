use Rattle.std.proofs.Common.{◌-◌, length}
use Rattle.doc_lists.proofs.Places.{LeftAt}
use Rattle.doc_lists.proofs.doc_list.doc_at.Given as goal

abbrev pub invariant-loop-left : goal.invariant-loop-left
invariant-loop-left l = LeftAt l.runs l.index l.place l.left

abbrev pub decreases-loop-left : goal.decreases-loop-left
decreases-loop-left l = length l.runs - l.place
