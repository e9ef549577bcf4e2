use Rattle.std.proofs.Common.{◌≡◌}
use Rattle.outside.specs.Files.{files_of}
use Rattle.memory_devices.proofs.file_map.FileMap.from_files.Given as goal

abbrev pub invariant-files : goal.invariant-files
invariant-files l = l.made ≡ files_of l.yielded
