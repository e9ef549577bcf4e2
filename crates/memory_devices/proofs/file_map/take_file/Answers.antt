use Rattle.std.proofs.Common.{◌≡◌, ◌∙◌, None, sym, subst}
use Rattle.std.specs.FinMap.{find}
use Rattle.memory_devices.specs.FileMap.{FoundAt}
use Rattle.outside.specs.Files.{name_order}
use Rattle.memory_devices.proofs.Held.{others_all, remove_others}
use Rattle.memory_devices.proofs.file_map.take_file.Goals as goal

pub returns-in-Some-clause-rest : goal.returns-in-Some-clause-rest
returns-in-Some-clause-rest c =
    let found = subst (λ files. FoundAt files c.args.name.now c.in-Some.at) c.deref.ensures.value c.in-Some.ensures in
    c.remove-bytes.ensures.items ∙ remove_others c.args.name.now c.args.files.now.items c.in-Some.at found.0 c.requires found.1 found.2 found.3

pub returns-in-None-clause-rest : goal.returns-in-None-clause-rest
returns-in-None-clause-rest c =
    sym (others_all c.args.name.now c.args.files.now.items (subst (λ files. find name_order c.args.name.now files ≡ None) c.deref.ensures.value c.in-None.ensures))
