use Rattle.std.proofs.Common.{◌≤◌, ◌-◌, length, take}
use Rattle.scan_engine.specs.Places.{rows_at}
use Rattle.coded_columns.specs.Coded.{table_of}
use Rattle.coded_columns.specs.Keyed.{HoldAggs}
use Rattle.coded_columns.proofs.keyed_rows.states_of_slots.Given as goal

abbrev pub invariant-loop-from : goal.invariant-loop-from
invariant-loop-from l = record {
  within : l.from ≤ length l.slots;
  holds : HoldAggs l.count (take l.from l.slots) (rows_at (table_of l.placed.segment.now).columns (take l.from l.placed.places.now)) l.aggs l.owns.items;
}

abbrev pub decreases-loop-from : goal.decreases-loop-from
decreases-loop-from l = length l.slots - l.from
