use Rattle.segment_plan.proofs.Emptied.{empty_has_none}
use Rattle.segment_plan.proofs.laws.empty_law.Goals as goal

pub returns : goal.returns
returns c = empty_has_none
