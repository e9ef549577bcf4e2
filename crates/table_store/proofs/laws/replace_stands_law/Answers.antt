use Rattle.table_store.proofs.KeepLemmas.{replace_stands}
use Rattle.table_store.proofs.laws.replace_stands_law.Goals as goal

pub returns : goal.returns
returns c = replace_stands
