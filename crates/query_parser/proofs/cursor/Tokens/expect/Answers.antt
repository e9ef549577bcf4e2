use Rattle.std.proofs.Common.{rules}
use Rattle.query_parser.specs.Reading.{expect}
use Rattle.query_parser.proofs.cursor.Tokens.expect.Goals as goal

pub returns-else-sees : goal.returns-else-sees
unfolding expect
returns-else-sees c = search rules
