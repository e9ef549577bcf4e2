use Rattle.segment_plan.proofs.Images.{head_tells}
use Rattle.segment_plan.proofs.laws.head_tells_law.Goals as goal

pub returns : goal.returns
returns c = head_tells
