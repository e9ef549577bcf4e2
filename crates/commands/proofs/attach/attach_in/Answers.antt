use Rattle.outside.specs.Seen.{seen}
use Rattle.commands.proofs.AttachLemmas.{ran_halted, ran_put, ran_unread}
use Rattle.commands.proofs.attach.attach_in.Goals as goal

pub returns-in_err-columns : goal.returns-in_err-columns
returns-in_err-columns g c = λ first place.
    let i = seen g.I.Shelf c.args.inputs.now in
    let j = seen g.I.Shelf c.read_image.new.inputs in
    let b = seen g.D.Shelf c.args.depot.now in
    let why = c.in_err-columns.field-0.0 in
    ran_halted c.args.name.now c.args.file.now i j first b c.from_residual.result why c.from_residual.ensures.1
    (ran_unread c.args.name.now c.args.file.now i j first b c.args.table.now place why c.in_err-columns.ensures)

pub returns : goal.returns
returns g c = λ first place.
    let i = seen g.I.Shelf c.args.inputs.now in
    let j = seen g.I.Shelf c.read_image.new.inputs in
    let b = seen g.D.Shelf c.args.depot.now in
    let d = seen g.D.Shelf c.put_in.new.depot in
    let put = c.put_in.ensures in
    ran_put c.args.name.now c.args.file.now i j first b c.args.table.now place c.requires.name c.in_ok-columns.columns c.in_ok-columns.ensures d put.reads_still put.writes c.put_in.result put.writes_still put.puts
