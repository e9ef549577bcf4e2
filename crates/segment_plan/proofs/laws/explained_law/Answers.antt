use Rattle.segment_plan.proofs.OverRows.{explained_is_over}
use Rattle.segment_plan.proofs.laws.explained_law.Goals as goal

pub returns : goal.returns
returns c = explained_is_over
