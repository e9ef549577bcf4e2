use Rattle.std.proofs.Common.{IfSome, subst, sym}
use Rattle.outside.specs.Seen.{Seen, seen}
use Rattle.command_model.specs.Stored.{HasTableFile}
use Rattle.commands.proofs.QueryLemmas.{look_stopped, query_after, query_handed, ran_query}
use Rattle.commands.proofs.query.ask.Goals as goal

pub returns-in_err-table : goal.returns-in_err-table
returns-in_err-table g c = λ inputs.
    let a : Seen = seen g.D.Shelf c.args.depot.now in
    let b : Seen = seen g.D.Shelf c.stored_table.new.depot in
    let why = c.in_err-table.field-0.0 in
    ran_query c.args.about c.args.sql.now inputs a b c.from_residual.result
    (query_handed c.args.about c.args.sql.now a b c.from_residual.result why c.from_residual.ensures.1 (look_stopped HasTableFile c.docs_bound_law.ensures.bound c.args.about c.args.sql.now a b why c.in_err-table.ensures.looks))

pub ask_table-requires-clause-there : goal.ask_table-requires-clause-there
ask_table-requires-clause-there g c =
    let first = c.in_ok-table.ensures.looks in
    subst (λ held. IfSome held (λ files. HasTableFile files c.in_ok-table.table)) (sym first.reads.held) first.found

pub returns : goal.returns
returns g c = λ inputs.
    let a : Seen = seen g.D.Shelf c.args.depot.now in
    let b : Seen = seen g.D.Shelf c.stored_table.new.depot in
    let d : Seen = seen g.D.Shelf c.ask_table.new.depot in
    let first = c.in_ok-table.ensures.looks in
    ran_query c.args.about c.args.sql.now inputs a d c.ask_table.result (query_after c.args.about c.args.sql.now a b d first.reads first.log c.ask_table.result c.ask_table.ensures)
