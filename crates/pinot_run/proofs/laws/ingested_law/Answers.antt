use Rattle.pinot_run.proofs.IngestedLemmas.{ingested}
use Rattle.pinot_run.proofs.laws.ingested_law.Goals as goal

pub returns : goal.returns
returns c = ingested
