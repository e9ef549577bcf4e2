use Rattle.outside.specs.Seen.{seen}
use Rattle.command_model.proofs.CheckLemmas.{found_text, not_found}
use Rattle.command_model.proofs.store.said_of.Goals as goal

pub returns-in-Ok : goal.returns-in-Ok
returns-in-Ok g c = found_text c.args.aim (seen g.D.Shelf c.args.depot.now) (seen g.D.Shelf c.look_at.new.depot) c.args.table.now c.args.name.now c.in-Ok.text c.in-Ok.ensures

pub returns-in-Err : goal.returns-in-Err
returns-in-Err g c = not_found c.args.aim (seen g.D.Shelf c.args.depot.now) (seen g.D.Shelf c.look_at.new.depot) c.args.table.now c.args.name.now c.in-Err.fault c.no_image.result c.no_image.ensures c.in-Err.ensures
