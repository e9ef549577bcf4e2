use Rattle.pinot_run.proofs.ServeMoves.{from_empty}
use Rattle.pinot_run.proofs.laws.from_empty_law.Goals as goal

pub returns : goal.returns
returns c = from_empty
