use Rattle.std.proofs.Common.{◌+◌, ◌*◌, length}
use Rattle.query_tokens.specs.declared.token.Kind.TheVariants.{And, Or}
use Rattle.query_parser.specs.Cond as spec
use Rattle.query_parser.proofs.Turns.{Turns}
use Rattle.query_parser.proofs.condition.+cond.Given as goal

abbrev pub decreases-factor : goal.decreases-factor
decreases-factor g l = 3 * l.depth

abbrev pub decreases-conjunction : goal.decreases-conjunction
decreases-conjunction g l = 3 * l.depth + 1

abbrev pub decreases-cond : goal.decreases-cond
decreases-cond g l = 3 * l.depth + 2

abbrev pub invariant-conjunction-turns : goal.invariant-conjunction-turns
invariant-conjunction-turns g l = Turns And (spec.factor g.C.Condition.leaf g.C.Condition.joints l.depth) l.initial.tokens l.found l.tokens

abbrev pub decreases-conjunction-turns : goal.decreases-conjunction-turns
decreases-conjunction-turns g l = length l.tokens

abbrev pub invariant-cond-turns : goal.invariant-cond-turns
invariant-cond-turns g l = Turns Or (spec.conjunction g.C.Condition.joints (spec.factor g.C.Condition.leaf g.C.Condition.joints l.depth)) l.initial.tokens l.found l.tokens

abbrev pub decreases-cond-turns : goal.decreases-cond-turns
decreases-cond-turns g l = length l.tokens
