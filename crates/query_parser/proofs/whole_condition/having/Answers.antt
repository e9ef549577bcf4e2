use Rattle.query_parser.specs.Query.{having}
use Rattle.query_parser.proofs.whole_condition.having.Goals as goal

pub returns : goal.returns
unfolding having
returns c = c.cond.ensures
