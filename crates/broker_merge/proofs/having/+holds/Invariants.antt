use Rattle.std.proofs.Common.{◌≡◌, true, drop, map}
use Rattle.values.specs.Tests.{all_true, any_true}
use Rattle.group_table.specs.Kept.{group_at}
use Rattle.broker_merge.specs.Having.{are_tests, group_holds}
use Rattle.broker_merge.proofs.having.+holds.Given as goal

abbrev pub invariant-loop-member : goal.invariant-loop-member
invariant-loop-member l =
    (group_holds (group_at l.table l.at) l.fn.having ≡ all_true (map (group_holds (group_at l.table l.at)) (drop l.member-index l.member-items)))
    × (all_true (map (are_tests l.table) (drop l.member-index l.member-items)) ≡ true)

abbrev pub invariant-loop-member-2 : goal.invariant-loop-member-2
invariant-loop-member-2 l =
    (group_holds (group_at l.table l.at) l.fn.having ≡ any_true (map (group_holds (group_at l.table l.at)) (drop l.member-index l.member-items)))
    × (all_true (map (are_tests l.table) (drop l.member-index l.member-items)) ≡ true)
