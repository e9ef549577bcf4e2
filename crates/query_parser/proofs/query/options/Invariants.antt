use Rattle.std.proofs.Common.{length}
use Rattle.query_parser.proofs.Takes.{OptionTurns}
use Rattle.query_parser.proofs.query.options.Given as goal

abbrev pub invariant-turns : goal.invariant-turns
invariant-turns l = OptionTurns l.initial.tokens l.use_tree l.tokens

abbrev pub decreases-turns : goal.decreases-turns
decreases-turns l = length l.tokens
