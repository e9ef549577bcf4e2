use Rattle.std.proofs.Common.{length, take, replicate, pos}
use Rattle.star_records.specs.Slots.{HoldsSlots}
use Rattle.star_records.proofs.slot_docs.add_zeros.Given as goal

abbrev pub invariant-loop-row : goal.invariant-loop-row
invariant-loop-row l = HoldsSlots l.fn.column.kind (length l.fn.column.states) (take l.row l.slots)
    (replicate l.row (pos 0)) l.column
