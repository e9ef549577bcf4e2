use Rattle.std.proofs.Common.{length, take}
use Rattle.agg_laws.specs.Numbers.{AreWhole}
use Rattle.star_records.specs.Slots.{HoldsSlots}
use Rattle.star_records.proofs.slot_docs.add_numbers.Given as goal

abbrev pub invariant-loop-row : goal.invariant-loop-row
invariant-loop-row l = record {
  holds : HoldsSlots l.fn.column.kind (length l.fn.column.states) (take l.row l.slots)
      (take l.row l.numbers) l.column;
  whole : AreWhole (take l.row l.numbers);
}
