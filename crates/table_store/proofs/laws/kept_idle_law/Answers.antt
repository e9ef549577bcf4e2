use Rattle.table_store.proofs.KeepLemmas.{kept_idle}
use Rattle.table_store.proofs.laws.kept_idle_law.Goals as goal

pub returns : goal.returns
returns c = kept_idle
