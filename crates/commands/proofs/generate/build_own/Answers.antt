use Rattle.outside.specs.Seen.{seen}
use Rattle.command_words.specs.Command.{GeneratedRows}
use Rattle.command_model.specs.Generated.{generated_name}
use Rattle.command_model.proofs.BuildLemmas.{ran_halted, ran_unplaced}
use Rattle.commands.proofs.GenerateLemmas.{own_named}
use Rattle.commands.proofs.generate.build_own.Goals as goal

pub returns-in_err-table : goal.returns-in_err-table
returns-in_err-table g c = λ inputs.
    let a = seen g.D.Shelf c.args.depot.now in
    let b = seen g.D.Shelf c.table_with_place.new.depot in
    let why = c.in_err-table.field-0.0 in
    ran_halted generated_name (GeneratedRows c.args.rows) (record { inputs = inputs; depot = a }) (record { inputs = inputs; depot = b }) c.from_residual.result why c.from_residual.ensures.1
    (ran_unplaced generated_name (GeneratedRows c.args.rows) own_named inputs a b why c.in_err-table.ensures.place)

pub returns : goal.returns
returns g c = λ inputs. c.build_rows.ensures inputs (seen g.D.Shelf c.args.depot.now) c.in_ok-table.ensures.place
