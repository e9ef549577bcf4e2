use Rattle.std.proofs.Common.{◌≡◌, map, take}
use Rattle.memory_devices.proofs.file_map.copy_names.Given as goal

abbrev pub invariant-loop-file : goal.invariant-loop-file
invariant-loop-file l = l.names ≡ map (λ e. e.0) (take l.file-index l.files)
