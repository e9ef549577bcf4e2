use Rattle.std.proofs.Common.{◌≡◌}
use Rattle.outside.specs.Seen.{seen}
use Rattle.command_model.proofs.InputLemmas.{image_after, image_lacking, image_unknown, image_unread}
use Rattle.command_model.proofs.image.read_image.Goals as goal

pub returns-in-Err-Missing : goal.returns-in-Err-Missing
returns-in-Err-Missing g c =
    let e = c.in-Err-Missing.ensures in
    image_lacking (seen g.I.Shelf c.args.inputs.now) (seen g.I.Shelf c.length.new.self) c.args.table.now c.args.name.now c.args.file.now c.no_input.result c.no_input.ensures e.only_reads (λ f. cc) e.log (e.missing cc)

pub returns-in-Err-Failed : goal.returns-in-Err-Failed
returns-in-Err-Failed g c =
    let e = c.in-Err-Failed.ensures in
    image_unread (seen g.I.Shelf c.args.inputs.now) (seen g.I.Shelf c.length.new.self) c.args.table.now c.args.name.now c.args.file.now e.only_reads (cc) e.log

pub returns-in-Err-NoMemory : goal.returns-in-Err-NoMemory
returns-in-Err-NoMemory g c =
    let e = c.in-Err-NoMemory.ensures in
    image_unknown (seen g.I.Shelf c.args.inputs.now) (seen g.I.Shelf c.length.new.self) c.args.table.now c.args.name.now c.args.file.now e.only_reads (λ f. cc) e.log

pub returns : goal.returns
returns g c =
    let e = c.in-Ok.ensures in
    image_after (seen g.I.Shelf c.args.inputs.now) (seen g.I.Shelf c.length.new.self) (seen g.I.Shelf c.check_there.new.inputs) c.args.table.now c.args.name.now c.args.file.now c.check_there.result e.only_reads (λ f. cc) e.log c.check_there.ensures
