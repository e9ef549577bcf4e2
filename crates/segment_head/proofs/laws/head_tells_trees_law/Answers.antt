use Rattle.segment_head.proofs.ImageTrees.{head_tells_trees}
use Rattle.segment_head.proofs.laws.head_tells_trees_law.Goals as goal

pub returns : goal.returns
returns c = head_tells_trees
