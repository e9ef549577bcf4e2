use Rattle.std.proofs.Common.{rules}
use Rattle.query_parser.specs.Operators.{operator}
use Rattle.query_parser.proofs.operators.operator.Goals as goal

pub returns-in-Le : goal.returns-in-Le
unfolding operator
returns-in-Le c = search rules
