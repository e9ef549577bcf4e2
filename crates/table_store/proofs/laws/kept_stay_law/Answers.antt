use Rattle.table_store.proofs.KeepLemmas.{kept_stay}
use Rattle.table_store.proofs.laws.kept_stay_law.Goals as goal

pub returns : goal.returns
returns c = kept_stay
