use Rattle.std.proofs.Common.{◌-◌, ◌≤◌, length}
use Rattle.memory_devices.specs.FileMap.{PutsAt}
use Rattle.memory_devices.proofs.file_map.place_of.Given as goal

abbrev pub invariant-less : goal.invariant-less
invariant-less l = record { within : l.at ≤ length l.files; before : PutsAt l.files l.name l.at }

abbrev pub decreases-less : goal.decreases-less
decreases-less l = length l.files - l.at
