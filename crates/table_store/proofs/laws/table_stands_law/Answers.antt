use Rattle.table_store.proofs.StandsLemmas.{table_stands}
use Rattle.table_store.proofs.laws.table_stands_law.Goals as goal

pub returns : goal.returns
returns c = table_stands
