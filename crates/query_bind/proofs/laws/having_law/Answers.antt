use Rattle.query_bind.proofs.WrittenLemmas.{having_holds}
use Rattle.query_bind.proofs.laws.having_law.Goals as goal

pub returns : goal.returns
returns c = having_holds
