use Rattle.std.proofs.Common.{◌∙◌, ap}
use Rattle.std.specs.FinMap as map
use Rattle.outside.specs.Files.{name_order}
use Rattle.memory_devices.proofs.Held.{empty_held}
use Rattle.memory_devices.proofs.file_map.FileMap.new.Goals as goal

pub returns : goal.returns
returns c = ap (map.from_sorted {R = name_order}) c.new.ensures.items ∙ empty_held
