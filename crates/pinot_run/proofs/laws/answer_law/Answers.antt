use Rattle.pinot_run.proofs.IngestedLemmas.{answers}
use Rattle.pinot_run.proofs.laws.answer_law.Goals as goal

pub returns : goal.returns
returns c = answers
