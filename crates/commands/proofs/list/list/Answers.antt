use Rattle.std.proofs.Common.{IfSome, subst, sym}
use Rattle.outside.specs.Seen.{Seen, seen}
use Rattle.command_model.specs.Profile.{StoreFiles}
use Rattle.command_model.specs.Stored.{HasTableFile, IsListed, SegmentsRefuse}
use Rattle.commands.proofs.ListLemmas.{ran_list}
use Rattle.commands.proofs.ReadLemmas.{stored_heads}
use Rattle.command_model.proofs.StoredLemmas.{err_wider, handed}
use Rattle.commands.proofs.list.list.Goals as goal

pub returns-in_err-table : goal.returns-in_err-table
returns-in_err-table g c = λ inputs.
    let a : Seen = seen g.D.Shelf c.args.depot.now in
    let b : Seen = seen g.D.Shelf c.stored_table.new.depot in
    let why = c.in_err-table.field-0.0 in
    ran_list inputs a b c.from_residual.result (stored_heads a.held a.log b.log c.in_err-table.ensures.looks.log)
    (handed IsListed SegmentsRefuse StoreFiles a b c.from_residual.result why c.from_residual.ensures.1 (err_wider HasTableFile IsListed a b why c.in_err-table.ensures.looks))

pub list_table-requires-clause-there : goal.list_table-requires-clause-there
list_table-requires-clause-there g c =
    let first = c.in_ok-table.ensures.looks in
    subst (λ held. IfSome held (λ files. HasTableFile files c.in_ok-table.table)) (sym first.reads.held) first.found

pub returns : goal.returns
returns g c = c.list_table.ensures (seen g.D.Shelf c.args.depot.now) c.in_ok-table.ensures.looks
