use Rattle.segment_check.proofs.FailsOnce.{fails_once}
use Rattle.segment_check.proofs.laws.fails_once_law.Goals as goal

pub returns : goal.returns
returns c = fails_once
