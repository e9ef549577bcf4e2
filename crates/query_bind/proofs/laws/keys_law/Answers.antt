use Rattle.query_bind.proofs.PlaceLemmas.{keys_hold}
use Rattle.query_bind.proofs.laws.keys_law.Goals as goal

pub returns : goal.returns
returns c = keys_hold
