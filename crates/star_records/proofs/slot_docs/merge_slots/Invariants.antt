use Rattle.std.proofs.Common.{◌≡◌, map}
use Rattle.state_columns.specs.Region.{numbers_from}
use Rattle.star_records.specs.Slots.{slot_doc}
use Rattle.star_records.proofs.slot_docs.merge_slots.Given as goal

abbrev pub invariant-loop-slot : goal.invariant-loop-slot
invariant-loop-slot l = record {
  dims : l.table.dims ≡ l.shape.dims;
  kinds : l.table.kinds ≡ l.shape.kinds;
  docs : l.table.docs ≡ map (slot_doc l.shape.kinds l.fn.dims l.metrics l.fn.slots.slots.items
      l.fn.slots.rows.items) (numbers_from 0 l.slot);
}
