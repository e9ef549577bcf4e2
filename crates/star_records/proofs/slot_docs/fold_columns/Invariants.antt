use Rattle.std.proofs.Common.{take}
use Rattle.star_records.specs.Slots.{AllHold}
use Rattle.star_records.proofs.slot_docs.fold_columns.Given as goal

abbrev pub invariant-loop-at : goal.invariant-loop-at
invariant-loop-at l =
    AllHold l.count l.slots (take l.at l.kinds) (take l.at l.metrics) l.columns.items
