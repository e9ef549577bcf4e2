use Rattle.table_store.proofs.StandsLemmas.{one_state}
use Rattle.table_store.proofs.laws.one_state_law.Goals as goal

pub returns : goal.returns
returns c = one_state
