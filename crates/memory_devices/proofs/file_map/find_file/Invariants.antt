use Rattle.std.proofs.Common.{◌≡◌, drop}
use Rattle.std.specs.FinMap.{find}
use Rattle.outside.specs.Files.{name_order}
use Rattle.memory_devices.proofs.file_map.find_file.Given as goal

abbrev pub invariant-loop-file : goal.invariant-loop-file
invariant-loop-file l = find name_order l.name l.files ≡ find name_order l.name (drop l.file-index l.files)
