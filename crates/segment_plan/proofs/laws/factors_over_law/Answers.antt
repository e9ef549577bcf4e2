use Rattle.segment_plan.proofs.OverRows.{factors_are_over}
use Rattle.segment_plan.proofs.laws.factors_over_law.Goals as goal

pub returns : goal.returns
returns c = factors_are_over
