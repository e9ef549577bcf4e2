use Rattle.outside.specs.Seen.{seen}
use Rattle.command_model.proofs.CreateLemmas.{other_err}
use Rattle.commands.proofs.ScriptLemmas.{opened_short, opened_text, ran_halted, ran_opened}
use Rattle.commands.proofs.script.open_script.Goals as goal

pub returns-in_err-bytes-clause-ran : goal.returns-in_err-bytes-clause-ran
returns-in_err-bytes-clause-ran g c = λ depot.
    let e = c.in_err-bytes.ensures in
    ran_halted c.args.file.now (seen g.I.Shelf c.args.inputs.now) (seen g.I.Shelf c.read_input.new.inputs) depot e.reads c.from_residual.result c.in_err-bytes.field-0.0 c.from_residual.ensures.1
    e.stops (λ other. e.unchanged (other_err c.in_err-bytes.field-0.0 other))

pub returns-clause-ran : goal.returns-clause-ran
returns-clause-ran g c = λ depot.
    let e = c.in_ok-bytes.ensures in
    ran_opened c.args.file.now (seen g.I.Shelf c.args.inputs.now) (seen g.I.Shelf c.read_input.new.inputs) depot e.reads c.in_ok-bytes.bytes c.text_of.result (e.unchanged (λ e. cc)) e.whole c.text_of.ensures

pub returns-clause-text : goal.returns-clause-text
returns-clause-text g c =
    opened_text (g.I.Shelf.held c.args.inputs.now) c.args.file.now c.in_ok-bytes.bytes c.text_of.result c.in_ok-bytes.ensures.whole c.text_of.ensures

pub returns-clause-short : goal.returns-clause-short
returns-clause-short g c = opened_short c.in_ok-bytes.bytes c.text_of.result c.in_ok-bytes.ensures.short c.text_of.ensures
