use Rattle.table_store.proofs.StandsLemmas.{segment_stands}
use Rattle.table_store.proofs.laws.segment_stands_law.Goals as goal

pub returns : goal.returns
returns c = segment_stands
