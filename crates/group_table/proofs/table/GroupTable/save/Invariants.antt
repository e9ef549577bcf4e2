use Rattle.group_table.proofs.SavedSteps.{Saving}
use Rattle.group_table.proofs.table.GroupTable.save.Given as goal

abbrev pub invariant-loop-at : goal.invariant-loop-at
invariant-loop-at l = Saving l.fn.self l.fn.pool l.into.items l.at
