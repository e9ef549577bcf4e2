use Rattle.state_pool.proofs.SlotLemmas.{disjoint}
use Rattle.state_pool.proofs.laws.pool_law.Goals as goal

pub returns : goal.returns
returns c = record { disjoint = disjoint }
