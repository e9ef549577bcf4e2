use Rattle.std.proofs.Common.{◌≡◌, ◌≤◌, ◌++◌, drop}
use Rattle.state_columns.specs.Grouping.{numbered}
use Rattle.state_columns.proofs.grouping.slots_of.Given as goal

abbrev pub invariant-loop-key : goal.invariant-loop-key
invariant-loop-key l = record {
  slots : l.slots.items ++ numbered l.count (drop l.key l.table) ≡ numbered 0 l.table;
  at_most : l.count ≤ l.key;
}
