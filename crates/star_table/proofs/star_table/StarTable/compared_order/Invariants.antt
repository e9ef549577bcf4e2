use Rattle.std.proofs.Common.{◌≡◌}
use Rattle.state_columns.specs.Region.{numbers}
use Rattle.star_table.proofs.star_table.StarTable.compared_order.Given as goal

abbrev pub invariant-loop-at : goal.invariant-loop-at
invariant-loop-at l = l.order.items ≡ numbers l.start l.at
