use Rattle.table_store.proofs.StandsLemmas.{create_stands}
use Rattle.table_store.proofs.laws.create_stands_law.Goals as goal

pub returns : goal.returns
returns c = create_stands
