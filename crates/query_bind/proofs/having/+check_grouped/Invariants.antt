use Rattle.std.proofs.Common.{◌≡◌, map, drop}
use Rattle.query_bind.specs.GroupTests.{first_test}
use Rattle.query_bind.specs.Grouped.{test_grouped}
use Rattle.query_bind.proofs.having.+check_grouped.Given as goal
use Rattle.table_schema.specs.Firsts.{first_of}

abbrev pub invariant-loop-member : goal.invariant-loop-member
invariant-loop-member l =
    let check = test_grouped l.names.query.now.groups in
    first_of (map (first_test check) (drop l.member-index l.member-items)) ≡ first_test check l.fn.having
