use Rattle.std.proofs.Common.{◌≡◌, ◌++◌, None, map, take, drop}
use Rattle.query_bind.specs.Names.{condition_finding}
use Rattle.query_bind.specs.Joints.{all_gathered}
use Rattle.query_bind.proofs.normal.Scope.+gather.Given as goal
use Rattle.table_schema.specs.Firsts.{first_of}

abbrev pub invariant-gather_all-loop-condition : goal.invariant-gather_all-loop-condition
invariant-gather_all-loop-condition l =
    (l.members ≡ l.initial.members ++ all_gathered l.joint l.negated l.self.fields.all.now (take l.condition-index l.conditions))
    × (first_of (map (condition_finding l.self.fields.all.now) (drop l.condition-index l.conditions)) ≡ None)
