use Rattle.query_parser.proofs.Again.{condition_again}
use Rattle.query_parser.proofs.laws.spelled_is_read.Goals as goal

pub returns : goal.returns
returns c = condition_again
