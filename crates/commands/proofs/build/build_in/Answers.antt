use Rattle.outside.specs.Seen.{seen}
use Rattle.command_words.specs.Command.{CsvFile}
use Rattle.values.specs.Columns.{rows_of}
use Rattle.command_model.proofs.BuildLemmas.{file_read, ran_halted, ran_published, ran_rowless, rows_stop}
use Rattle.command_model.proofs.CreateLemmas.{other_err}
use Rattle.commands.proofs.build.build_in.Goals as goal

pub returns-in_err-columns : goal.returns-in_err-columns
returns-in_err-columns g c = λ first place.
    let i = seen g.I.Shelf c.args.inputs.now in
    let j = seen g.I.Shelf c.read_rows.new.inputs in
    let b = seen g.D.Shelf c.args.depot.now in
    let why = c.in_err-columns.field-0.0 in
    let rows = c.in_err-columns.ensures in
    ran_halted c.args.name.now (CsvFile c.args.csv.now) (record { inputs = i; depot = first }) (record { inputs = j; depot = b }) c.from_residual.result why c.from_residual.ensures.1
    (ran_rowless c.args.name.now (CsvFile c.args.csv.now) c.requires.name i j first b c.args.table.now place (file_read c.args.csv.now i j rows.reads) why (λ other. rows.unchanged (other_err why other)) (rows_stop c.args.table.now.schema.fields c.args.csv.now i.held _ why rows.stops))

pub returns : goal.returns
returns g c = λ first place.
    let i = seen g.I.Shelf c.args.inputs.now in
    let j = seen g.I.Shelf c.read_rows.new.inputs in
    let b = seen g.D.Shelf c.args.depot.now in
    let d = seen g.D.Shelf c.publish.new.depot in
    let rows = c.in_ok-columns.ensures in
    let made = c.publish.ensures in
    ran_published c.args.name.now (CsvFile c.args.csv.now) c.requires.name i j first b c.args.table.now place (file_read c.args.csv.now i j rows.reads) d (rows_of c.in_ok-columns.columns) (rows.unchanged (λ e. cc)) made.reads_still made.writes rows.rows rows.made.fit rows.made.unicode
    c.publish.result made.writes_still made.publishes
