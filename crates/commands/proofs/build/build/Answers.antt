use Rattle.outside.specs.Seen.{seen}
use Rattle.command_words.specs.Command.{CsvFile}
use Rattle.command_model.proofs.BuildLemmas.{ran_halted, ran_unplaced}
use Rattle.commands.proofs.build.build.Goals as goal

pub returns-in_err-table : goal.returns-in_err-table
returns-in_err-table g c =
    let i = seen g.I.Shelf c.args.inputs.now in
    let a = seen g.D.Shelf c.args.depot.now in
    let b = seen g.D.Shelf c.table_with_place.new.depot in
    let why = c.in_err-table.field-0.0 in
    ran_halted c.args.name.now (CsvFile c.args.csv.now) (record { inputs = i; depot = a }) (record { inputs = i; depot = b }) c.from_residual.result why c.from_residual.ensures.1
    (ran_unplaced c.args.name.now (CsvFile c.args.csv.now) c.requires i a b why c.in_err-table.ensures.place)

pub returns : goal.returns
returns g c = c.build_in.ensures (seen g.D.Shelf c.args.depot.now) c.in_ok-table.ensures.place
