use Rattle.std.proofs.Common.{◌≡◌, drop}
use Rattle.std.specs.FinMap.{find}
use Rattle.outside.specs.Files.{name_order}
use Rattle.memory_devices.proofs.file_map.index_of.Given as goal

abbrev pub invariant-loop-at : goal.invariant-loop-at
invariant-loop-at l = find name_order l.name l.files ≡ find name_order l.name (drop l.at l.files)
