use Rattle.segment_plan.proofs.OnePlan.{one_plan}
use Rattle.segment_plan.proofs.laws.one_plan_law.Goals as goal

pub returns : goal.returns
returns c = one_plan
