use Rattle.std.proofs.Common.{◌≡◌, map, drop}
use Rattle.query_bind.specs.Names.{condition_finding}
use Rattle.query_bind.proofs.condition.+check_condition.Given as goal
use Rattle.table_schema.specs.Firsts.{first_of}

abbrev pub invariant-loop-member : goal.invariant-loop-member
invariant-loop-member l = first_of (map (condition_finding l.fields.all.now) (drop l.member-index l.member-items)) ≡ condition_finding l.fields.all.now l.fn.condition
