use Rattle.pinot_run.proofs.ServeMoves.{served_leads}
use Rattle.pinot_run.proofs.laws.served_law.Goals as goal

pub returns : goal.returns
returns c = served_leads
