use Rattle.std.proofs.Common.{length}
use Rattle.query_parser.proofs.Turns.{Turns}
use Rattle.query_parser.proofs.lists.list.Given as goal

abbrev pub invariant-turns : goal.invariant-turns
invariant-turns g l = Turns l.separator g.T.Member.reading l.initial.tokens l.found l.tokens

abbrev pub decreases-turns : goal.decreases-turns
decreases-turns g l = length l.tokens
