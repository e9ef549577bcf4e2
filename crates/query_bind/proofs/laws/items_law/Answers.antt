use Rattle.query_bind.proofs.PlaceLemmas.{items_hold}
use Rattle.query_bind.proofs.laws.items_law.Goals as goal

pub returns : goal.returns
returns c = items_hold
