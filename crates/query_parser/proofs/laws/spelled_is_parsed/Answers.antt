use Rattle.query_parser.proofs.AgainQuery.{query_again}
use Rattle.query_parser.proofs.laws.spelled_is_parsed.Goals as goal

pub returns : goal.returns
returns c = query_again
