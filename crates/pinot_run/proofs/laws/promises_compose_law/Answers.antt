use Rattle.pinot_run.proofs.LawLemmas.{compose}
use Rattle.pinot_run.proofs.laws.promises_compose_law.Goals as goal

pub returns : goal.returns
returns c = compose
