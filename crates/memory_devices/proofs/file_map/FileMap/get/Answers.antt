use Rattle.std.proofs.Common.{◌∙◌, sym, ap}
use Rattle.std.specs.FinMap as map
use Rattle.std.specs.FinMap.{find}
use Rattle.outside.specs.Files.{name_order}
use Rattle.memory_devices.proofs.Held.{get_held}
use Rattle.memory_devices.proofs.file_map.FileMap.get.Goals as goal

pub returns : goal.returns
returns c = c.find_file.ensures ∙ ap (find name_order c.args.name.now) c.as_slice.ensures.value
    ∙ sym (get_held c.self.inside.files.items c.args.name.now c.self.invariant) ∙ ap (λ files. map.get files c.args.name.now) c.self.view_is
