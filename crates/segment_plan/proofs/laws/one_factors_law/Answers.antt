use Rattle.segment_plan.proofs.OneFactors.{one_factors}
use Rattle.segment_plan.proofs.laws.one_factors_law.Goals as goal

pub returns : goal.returns
returns c = one_factors
