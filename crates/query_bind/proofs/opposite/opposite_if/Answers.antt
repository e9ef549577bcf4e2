use Rattle.std.proofs.Common.{rules}
use Rattle.query_bind.proofs.opposite.opposite_if.Goals as goal

pub returns-in-Less : goal.returns-in-Less
returns-in-Less c = search rules
