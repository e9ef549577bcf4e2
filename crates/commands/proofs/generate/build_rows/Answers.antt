use Rattle.std.proofs.Common.{◌≡◌, Ok, refl}
use Rattle.outside.specs.Seen.{seen}
use Rattle.values.specs.Columns.{rows_of}
use Rattle.command_words.specs.Command.{GeneratedRows}
use Rattle.command_model.specs.Generated.{generated_name, rows_generated}
use Rattle.command_model.proofs.BuildLemmas.{own_rows_stop, ran_halted, ran_published, ran_rowless, told_all}
use Rattle.commands.proofs.GenerateLemmas.{own_named}
use Rattle.commands.proofs.generate.build_rows.Goals as goal

pub returns-in_err-columns : goal.returns-in_err-columns
returns-in_err-columns g c = λ inputs first place.
    let b = seen g.D.Shelf c.args.depot.now in
    let why = c.in_err-columns.field-0.0 in
    ran_halted generated_name (GeneratedRows c.args.rows) (record { inputs = inputs; depot = first }) (record { inputs = inputs; depot = b }) c.from_residual.result why c.from_residual.ensures.1
    (ran_rowless generated_name (GeneratedRows c.args.rows) own_named inputs inputs first b c.args.table.now place refl why (λ other. refl) (own_rows_stop c.args.table.now.schema.fields c.args.rows inputs.held _ why c.in_err-columns.ensures.stops))

pub publish-requires-clause-name : goal.publish-requires-clause-name
publish-requires-clause-name g c = own_named

pub returns : goal.returns
returns g c = λ inputs first place.
    let b = seen g.D.Shelf c.args.depot.now in
    let d = seen g.D.Shelf c.publish.new.depot in
    let rows = c.in_ok-columns.ensures in
    let made = c.publish.ensures in
    ran_published generated_name (GeneratedRows c.args.rows) own_named inputs inputs first b c.args.table.now place refl d (rows_of c.in_ok-columns.columns) refl made.reads_still made.writes
    (told_all inputs.held (λ files. rows_generated c.args.table.now.schema.fields c.args.rows ≡ Ok (rows_of c.in_ok-columns.columns)) (λ files. rows.rows)) rows.made.fit rows.made.unicode
    c.publish.result made.writes_still made.publishes
