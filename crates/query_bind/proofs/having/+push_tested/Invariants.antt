use Rattle.std.proofs.Common.{◌≡◌, ◌++◌, None, map, flat_map, take, drop}
use Rattle.query_bind.specs.GroupTests.{first_test}
use Rattle.query_bind.specs.Names.{group_test_finding}
use Rattle.query_bind.specs.Terms.{tested_in}
use Rattle.query_bind.proofs.having.+push_tested.Given as goal
use Rattle.table_schema.specs.Firsts.{first_of}

abbrev pub invariant-push_all_tested-loop-condition : goal.invariant-push_all_tested-loop-condition
invariant-push_all_tested-loop-condition l =
    (l.terms ≡ l.initial.terms ++ flat_map (tested_in l.fields.all.now) (take l.condition-index l.conditions))
    × (first_of (map (first_test (group_test_finding l.fields.all.now)) (drop l.condition-index l.conditions)) ≡ None)
