use Rattle.csv_ingest.proofs.ValidLemmas.{valid-defaults}
use Rattle.csv_ingest.proofs.laws.defaults_law.Goals as goal

pub returns : goal.returns
returns c = valid-defaults
