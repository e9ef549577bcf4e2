use Rattle.std.proofs.Common.{◌≡◌, ◌≤◌, length}
use Rattle.group_table.proofs.SavedSteps.{Shortened, PutBack}
use Rattle.group_table.proofs.table.GroupTable.restore.Given as goal

abbrev pub invariant-newer : goal.invariant-newer
invariant-newer l = record {
  columns : l.self-inside.columns ≡ l.fn.self.columns;
  owner : l.self-inside.owner ≡ l.fn.self.owner;
  most : l.self-inside.most ≡ l.fn.self.most;
  fewer : l.fn.count ≤ length l.self-inside.slots.entries;
  short : Shortened l.fn.self l.fn.pool l.pool l.self-inside.slots.entries;
}

abbrev pub decreases-newer : goal.decreases-newer
decreases-newer l = length l.self-inside.slots.entries

abbrev pub invariant-groups : goal.invariant-groups
invariant-groups l = PutBack l.fn.self l.fn.pool l.states l.kinds l.self-inside.slots.entries l.pool l.at
