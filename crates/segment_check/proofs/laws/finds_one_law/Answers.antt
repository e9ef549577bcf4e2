use Rattle.segment_check.proofs.Finds.{finds_one}
use Rattle.segment_check.proofs.laws.finds_one_law.Goals as goal

pub returns : goal.returns
returns c = finds_one
