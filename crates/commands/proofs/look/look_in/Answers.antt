use Rattle.outside.specs.Seen.{seen}
use Rattle.commands.proofs.LookLemmas.{ran_found, ran_unfound}
use Rattle.commands.proofs.look.look_in.Goals as goal

pub returns-in-Ok : goal.returns-in-Ok
returns-in-Ok g c = λ inputs a first.
    ran_found c.args.aim c.args.name.now inputs a (seen g.D.Shelf c.args.depot.now) (seen g.D.Shelf c.said_of.new.depot) c.args.table.now first c.in-Ok.text c.in-Ok.ensures

pub returns-in-Err : goal.returns-in-Err
returns-in-Err g c = λ inputs a first.
    ran_unfound c.args.aim c.args.name.now inputs a (seen g.D.Shelf c.args.depot.now) (seen g.D.Shelf c.said_of.new.depot) c.args.table.now first c.in-Err.why c.in-Err.ensures
