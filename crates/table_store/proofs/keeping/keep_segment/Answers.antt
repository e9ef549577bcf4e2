use Rattle.std.proofs.Common.{◌∙◌, subst}
use Rattle.outside.specs.Files.{Has}
use Rattle.table_store.proofs.keeping.keep_segment.Goals as goal

pub returns-in-Ok-clause-was_there : goal.returns-in-Ok-clause-was_there
returns-in-Ok-clause-was_there g c = subst (Has (g.D.Shelf.held c.args.depot.now)) (c.as_str.ensures.value ∙ c.in_ok-file.ensures) c.in-Ok.ensures.was_there
