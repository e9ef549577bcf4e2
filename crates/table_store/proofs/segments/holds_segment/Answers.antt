use Rattle.std.proofs.Common.{◌∙◌, subst}
use Rattle.outside.specs.Files.{Has}
use Rattle.table_store.proofs.FilesLemmas.{long_there}
use Rattle.table_store.proofs.segments.holds_segment.Goals as goal

pub returns-in-Ok-clause-yes : goal.returns-in-Ok-clause-yes
returns-in-Ok-clause-yes g c = λ yes.
    let held = g.D.Shelf.held c.args.depot.now in
    subst (Has held) (c.as_str.ensures.value ∙ c.in_ok-file.ensures) (long_there held c.as_str.result.now c.in-Ok.field-0 c.in-Ok.ensures.length)
