use Rattle.segment_check.proofs.Finds.{finds_some}
use Rattle.segment_check.proofs.laws.finds_some_law.Goals as goal

pub returns : goal.returns
returns c = finds_some
