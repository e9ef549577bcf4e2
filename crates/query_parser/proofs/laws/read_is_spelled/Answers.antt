use Rattle.query_parser.proofs.Found.{condition_found}
use Rattle.query_parser.proofs.laws.read_is_spelled.Goals as goal

pub returns : goal.returns
returns c = condition_found
