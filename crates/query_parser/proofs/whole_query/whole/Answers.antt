use Rattle.std.proofs.Common.{arith}
use Rattle.query_parser.specs.Query.{parsed}
use Rattle.query_parser.proofs.QueryParts.{query_is}
use Rattle.query_parser.proofs.whole_query.whole.Goals as goal

pub returns : goal.returns
unfolding parsed
returns c = grind (arith, query_is)
