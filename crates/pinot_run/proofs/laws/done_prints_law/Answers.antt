use Rattle.pinot_run.proofs.DoneLemmas.{done_prints}
use Rattle.pinot_run.proofs.laws.done_prints_law.Goals as goal

pub returns : goal.returns
returns c = done_prints
