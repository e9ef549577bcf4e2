use Rattle.outside.specs.Seen.{seen}
use Rattle.command_model.proofs.InputLemmas.{image_found, image_unlike}
use Rattle.command_model.proofs.image.check_there.Goals as goal

pub returns-in-Ok : goal.returns-in-Ok
returns-in-Ok g c =
    let e = c.in-Ok.ensures in
    image_found (seen g.I.Shelf c.args.inputs.now) (seen g.I.Shelf c.check_columns.new.shelf) c.args.table.now c.args.name.now c.args.file.now c.requires.there c.in-Ok.columns
    (record { width = e.width; rows = e.checks.rows; fits = e.checks.fits }) e.checks

pub returns-in-Err : goal.returns-in-Err
returns-in-Err g c =
    image_unlike (seen g.I.Shelf c.args.inputs.now) (seen g.I.Shelf c.check_columns.new.shelf) c.args.table.now c.args.name.now c.args.file.now c.requires.there c.in-Err.fault c.head_stop.result c.head_stop.ensures c.in-Err.ensures.checks
