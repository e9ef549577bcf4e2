use Rattle.segment_plan.proofs.OverRows.{plan_is_over}
use Rattle.segment_plan.proofs.laws.plan_over_law.Goals as goal

pub returns : goal.returns
returns c = plan_is_over
