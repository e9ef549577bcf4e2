use Rattle.std.proofs.Common.{◌≡◌, None, map, take, drop}
use Rattle.query_bind.specs.GroupTests.{first_test}
use Rattle.query_bind.specs.Names.{group_test_finding}
use Rattle.query_bind.specs.Bound.{having_of}
use Rattle.query_bind.proofs.group_tests.Tested.+placed.Given as goal
use Rattle.table_schema.specs.Firsts.{first_of}

abbrev pub invariant-all_placed-loop-condition : goal.invariant-all_placed-loop-condition
invariant-all_placed-loop-condition l =
    (l.placed ≡ map (having_of l.self.fields.all.now l.self.lists.groups.now l.self.lists.aggs.now) (take l.condition-index l.conditions))
    × (first_of (map (first_test (group_test_finding l.self.fields.all.now)) (drop l.condition-index l.conditions)) ≡ None)
