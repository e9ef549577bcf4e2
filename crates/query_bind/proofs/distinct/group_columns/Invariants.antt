use Rattle.std.proofs.Common.{◌≡◌, ◌≤◌, [], drop, length}
use Rattle.query_bind.specs.Terms.{columns_from}
use Rattle.query_bind.specs.Limits.{groups_finding}
use Rattle.query_bind.proofs.distinct.group_columns.Given as goal

abbrev pub invariant-loop-name : goal.invariant-loop-name
invariant-loop-name l =
    (groups_finding l.columns (drop l.name-index l.names) ≡ groups_finding [] l.names)
    × (columns_from l.columns (drop l.name-index l.names) ≡ columns_from [] l.names)
    × (length l.columns ≤ 8)
