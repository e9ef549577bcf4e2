use Rattle.std.proofs.Common.{◌≡◌, ◌≤◌, length, drop}
use Rattle.indexmap.specs.IndexMap.{spare}
use Rattle.group_table.specs.Groups.{with_entries}
use Rattle.group_table.specs.Kept.{groups_in}
use Rattle.group_table.specs.Pooled.{StaysIn, in_pool}
use Rattle.group_table.specs.contracts.table.GroupTable.{the_view}
use Rattle.group_table.proofs.AbsorbSteps.{Left}
use Rattle.group_table.proofs.table.GroupTable.absorb.Given as goal

abbrev pub invariant-loop-at : goal.invariant-loop-at
invariant-loop-at l = record {
  columns : l.self-inside.columns ≡ l.fn.self.columns;
  owner : l.self-inside.owner ≡ l.fn.self.owner;
  most : l.self-inside.most ≡ l.fn.self.most;
  spares : length l.copies.items ≤ spare l.self-inside.slots;
  stays : StaysIn l.fn.self l.fn.pool (the_view l.self-inside) l.pool;
  left : Left (the_view l.self-inside) l.pool l.fn.from.owner l.copies.items (drop l.at l.fn.from.slots)
      (with_entries (groups_in (in_pool l.fn.self l.fn.pool)) (in_pool l.fn.from l.fn.pool).groups);
}
