use Rattle.outside.specs.Seen.{seen}
use Rattle.commands.proofs.DropLemmas.{ran_halted, ran_removed, ran_unopened}
use Rattle.commands.proofs.drop.drop_named.Goals as goal

pub returns-in_err-stored_table : goal.returns-in_err-stored_table
returns-in_err-stored_table g c = λ inputs.
    let a = seen g.D.Shelf c.args.depot.now in
    let b = seen g.D.Shelf c.stored_table.new.depot in
    let why = c.in_err-stored_table.field-0.0 in
    ran_halted c.args.name.now inputs a b c.from_residual.result why c.from_residual.ensures.1 (ran_unopened c.args.name.now inputs a b why c.in_err-stored_table.ensures.looks)

pub returns : goal.returns
returns g c = λ inputs.
    let a = seen g.D.Shelf c.args.depot.now in
    let b = seen g.D.Shelf c.stored_table.new.depot in
    let d = seen g.D.Shelf c.remove.new.depot in
    let e = c.remove.ensures in
    ran_removed c.args.name.now inputs a b d c.in_ok-stored_table.field-0 c.in_ok-stored_table.ensures.looks e.writes c.remove.result e.reads_still e.writes_still e.removes
