use Rattle.std.proofs.Common.{List, ℕ, Ok, Err, subst}
use Rattle.outside.specs.Seen.{seen}
use Rattle.text_scan.specs.TextReply.{Replies, text_reply}
use Rattle.command_model.proofs.CreateLemmas.{other_err}
use Rattle.commands.proofs.ScanLemmas.{of_stop, ran_halted, ran_replied, ran_stopped, ran_unread}
use Rattle.commands.proofs.scan.scan.Goals as goal

pub returns-in_err-text : goal.returns-in_err-text
returns-in_err-text g c = λ depot.
    let e = c.in_err-text.ensures in
    ran_halted c.args.file.now c.args.sql.now (seen g.I.Shelf c.args.inputs.now) (seen g.I.Shelf c.read_input.new.inputs) depot e.reads c.from_residual.result c.in_err-text.field-0.0 c.from_residual.ensures.1
    (ran_unread c.args.file.now c.args.sql.now (seen g.I.Shelf c.args.inputs.now) (seen g.I.Shelf c.read_input.new.inputs) depot e.reads c.in_err-text.field-0.0 e.stops (λ other. e.unchanged (other_err c.in_err-text.field-0.0 other)))

pub returns-in-Ok : goal.returns-in-Ok
returns-in-Ok g c = λ depot.
    let e = c.in_ok-text.ensures in
    ran_replied c.args.file.now c.args.sql.now (seen g.I.Shelf c.args.inputs.now) (seen g.I.Shelf c.read_input.new.inputs) depot e.reads c.in_ok-text.text c.in-Ok.reply (e.unchanged (λ e. cc)) e.whole
    (subst (λ (bytes : List ℕ). Replies (text_reply c.args.sql.now bytes) (Ok c.in-Ok.reply)) c.as_slice.ensures c.in-Ok.ensures)

pub returns : goal.returns
returns g c = λ depot.
    let e = c.in_ok-text.ensures in
    of_stop c.args.file.now c.args.sql.now (seen g.I.Shelf c.args.inputs.now) (seen g.I.Shelf c.read_input.new.inputs) depot e.reads c.in-Err.fault c.stop_of.result c.stop_of.ensures
    (ran_stopped c.args.file.now c.args.sql.now (seen g.I.Shelf c.args.inputs.now) (seen g.I.Shelf c.read_input.new.inputs) depot e.reads c.in_ok-text.text c.in-Err.fault (e.unchanged (λ e. cc)) e.whole
    (subst (λ (bytes : List ℕ). Replies (text_reply c.args.sql.now bytes) (Err c.in-Err.fault)) c.as_slice.ensures c.in-Err.ensures))
