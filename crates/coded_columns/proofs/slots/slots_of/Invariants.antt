use Rattle.std.proofs.Common.{take}
use Rattle.coded_columns.specs.Coded.{table_of}
use Rattle.coded_columns.specs.Slots.{AreSlots}
use Rattle.coded_columns.proofs.slots.slots_of.Given as goal

abbrev pub invariant-loop-group : goal.invariant-loop-group
invariant-loop-group l = AreSlots (table_of l.placed.segment.now).columns (take l.group-index l.groups) l.placed.places.now l.slots.items l.firsts.items
