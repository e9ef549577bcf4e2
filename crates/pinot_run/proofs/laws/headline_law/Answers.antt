use Rattle.pinot_run.proofs.ServeMoves.{headline}
use Rattle.pinot_run.proofs.laws.headline_law.Goals as goal

pub returns : goal.returns
returns c = headline
