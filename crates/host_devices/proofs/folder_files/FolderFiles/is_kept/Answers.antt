use Rattle.std.proofs.Common.{◌∙◌}
use Rattle.std.specs.Prelude.{string_bytes}
use Rattle.host_devices.proofs.NameLemmas.{kept_named}
use Rattle.host_devices.proofs.folder_files.FolderFiles.is_kept.Goals as goal

pub returns-then-fit : goal.returns-then-fit
returns-then-fit g c = λ is.
    let files = c.args.self.now in
    let at_most = c.fit.ensures.some c.if-fit.true in
    kept_named files.kept (λ k. string_bytes k.name) c.args.name.now files.ends.size files.ends.first files.ends.last (files.ends_of_some at_most) (files.kept_ends at_most) (λ bytes ends. c.fit.ensures.same c.if-fit.true at_most bytes ends ∙ c.as_bytes-name.ensures.value)
