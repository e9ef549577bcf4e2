use Rattle.segment_plan.proofs.Pruned.{pruned_has_none}
use Rattle.segment_plan.proofs.laws.pruned_law.Goals as goal

pub returns : goal.returns
returns c = pruned_has_none
