use Rattle.std.proofs.Common.{rules, subst, ◌≡◌}
use Rattle.std.specs.declared.cmp.Ordering.TheVariants.{Equal}
use Rattle.outside.specs.Files.{name_order}
use Rattle.memory_devices.specs.FileMap.{PutsAt}
use Rattle.memory_devices.proofs.Held.{set_is_put}
use Rattle.memory_devices.proofs.file_map.put_file.Goals as goal

pub returns-in-Equal-clause-ok : goal.returns-in-Equal-clause-ok
returns-in-Equal-clause-ok c =
    let same : name_order c.args.name c.index_mut-file.result.now.0 ≡ Equal = search rules in
    set_is_put c.args.files.now.items c.place_of-at.result c.args.name c.args.bytes c.index_mut-file.result.now (search rules) c.index_mut-file.ensures.value same
    (subst (λ f. PutsAt f c.args.name c.place_of-at.result) c.deref.ensures.value
    (subst (λ n. PutsAt c.deref.result.now n c.place_of-at.result) c.as_str.ensures c.place_of-at.ensures.before))
