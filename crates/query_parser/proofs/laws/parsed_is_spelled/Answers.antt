use Rattle.query_parser.proofs.FoundQuery.{query_found}
use Rattle.query_parser.proofs.laws.parsed_is_spelled.Goals as goal

pub returns : goal.returns
returns c = query_found
