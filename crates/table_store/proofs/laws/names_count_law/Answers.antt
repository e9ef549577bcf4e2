use Rattle.table_store.proofs.CountLemmas.{names_count}
use Rattle.table_store.proofs.laws.names_count_law.Goals as goal

pub returns : goal.returns
returns c = names_count
