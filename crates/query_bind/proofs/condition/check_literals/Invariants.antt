use Rattle.std.proofs.Common.{◌≡◌, Some, drop}
use Rattle.query_bind.specs.Names.{literal_finding}
use Rattle.query_bind.proofs.condition.check_literals.Given as goal
use Rattle.table_schema.specs.Firsts.{first_in}

abbrev pub invariant-loop-literal : goal.invariant-loop-literal
invariant-loop-literal l = first_in (literal_finding (Some l.kind)) (drop l.literal-index l.literals) ≡ first_in (literal_finding (Some l.kind)) l.literals
