use Rattle.table_store.proofs.DropLemmas.{drop_stands}
use Rattle.table_store.proofs.laws.drop_stands_law.Goals as goal

pub returns : goal.returns
returns c = drop_stands
