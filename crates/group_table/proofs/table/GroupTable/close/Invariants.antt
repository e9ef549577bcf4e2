use Rattle.std.proofs.Common.{length}
use Rattle.group_table.specs.Pooled.{HoldsAll, KeepsOthers, with_slots}
use Rattle.group_table.proofs.table.GroupTable.close.Given as goal

abbrev pub invariant-rest : goal.invariant-rest
invariant-rest l = record {
  holds : HoldsAll (with_slots l.fn.self l.slots.entries) l.pool;
  keeps : KeepsOthers l.fn.self.owner l.initial.pool l.pool;
}

abbrev pub decreases-rest : goal.decreases-rest
decreases-rest l = length l.slots.entries
