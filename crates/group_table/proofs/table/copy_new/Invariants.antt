use Rattle.std.proofs.Common.{◌≡◌, ◌≤◌, length, drop}
use Rattle.std.specs.Map.{keys_of}
use Rattle.group_table.specs.Pooled.{has_slot, new_keys}
use Rattle.group_table.proofs.table.copy_new.Given as goal

abbrev pub invariant-keys : goal.invariant-keys
invariant-keys l = record {
  within : l.at ≤ length l.from.entries;
  copied : l.copies.items ≡ new_keys (has_slot l.own.entries) (drop l.at (keys_of l.from.entries));
}

abbrev pub decreases-keys : goal.decreases-keys
decreases-keys l = l.at
