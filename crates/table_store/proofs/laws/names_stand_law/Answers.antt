use Rattle.table_store.proofs.KeyLemmas.{names_stand}
use Rattle.table_store.proofs.laws.names_stand_law.Goals as goal

pub returns : goal.returns
returns c = names_stand
