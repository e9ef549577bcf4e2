use Rattle.std.proofs.Common.{◌≡◌}
use Rattle.outside.specs.Seen.{seen}
use Rattle.commands.proofs.LookLemmas.{ran_halted, ran_unopened}
use Rattle.commands.proofs.look.look.Goals as goal

pub returns-in_err-table : goal.returns-in_err-table
returns-in_err-table g c = λ inputs.
    let a = seen g.D.Shelf c.args.depot.now in
    let b = seen g.D.Shelf c.stored_table.new.depot in
    let why = c.in_err-table.field-0.0 in
    ran_halted c.args.aim c.args.name.now inputs a b c.from_residual.result why c.from_residual.ensures.1 (ran_unopened c.args.aim c.args.name.now inputs a b why c.in_err-table.ensures.looks)

pub returns : goal.returns
returns g c = λ inputs. c.look_in.ensures inputs (seen g.D.Shelf c.args.depot.now) c.in_ok-table.ensures.looks
