use Rattle.query_executor.proofs.IdsAlike.{ids_are_alike}
use Rattle.query_executor.proofs.laws.ids_law.Goals as goal

pub returns : goal.returns
returns c = ids_are_alike c.image_law.ensures c.index_law.ensures c.head_tells_law.ensures c.plan_over_law.ensures
