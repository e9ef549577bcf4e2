use Rattle.std.proofs.Common.{◌≡◌, ◌≤◌, ◌+◌, length, drop}
use Rattle.std.specs.Map.{keys_of}
use Rattle.group_table.specs.Pooled.{has_slot, new_keys}
use Rattle.group_table.proofs.table.count_new.Given as goal

abbrev pub invariant-loop-at : goal.invariant-loop-at
invariant-loop-at l = record {
  few : l.count ≤ l.at;
  counted : l.count + length (new_keys (has_slot l.own.entries) (drop l.at (keys_of l.from.entries)))
      ≡ length (new_keys (has_slot l.own.entries) (keys_of l.from.entries));
}
