use Rattle.query_parser.specs.Cond.{condition}
use Rattle.query_parser.proofs.whole_condition.condition.Goals as goal

pub returns : goal.returns
unfolding condition
returns c = c.cond.ensures
