use Rattle.std.proofs.Common.{◌∙◌, Err, ap}
use Rattle.table_store.proofs.CopyLemmas.{gone_already}
use Rattle.table_store.proofs.keeping.remove_kept.Goals as goal

pub returns-in-Err-Missing-clause-removed : goal.returns-in-Err-Missing-clause-removed
returns-in-Err-Missing-clause-removed g c =
    c.in-Err-Missing.ensures.held ∙ gone_already c.args.kept.now (g.D.Shelf.held c.args.depot.now) (c.in-Err-Missing.ensures.missing (ap Err c.in-Err-Missing.field-0-is))
