use Rattle.std.proofs.Common.{◌∙◌, ap, map, string_bytes, subst, sym}
use Rattle.outside.specs.Seen.{Heard, heard}
use Rattle.command_words.specs.Command.{command_of, request_of, rows_asked}
use Rattle.command_model.specs.World.{World, world}
use Rattle.pinot_run.specs.Generate.{after}
use Rattle.pinot_run.specs.Promise.{Promise}
use Rattle.pinot_run.specs.Script.{DoesOne}
use Rattle.pinot_run.specs.Text.{line_request, words_of}
use Rattle.pinot_run.proofs.GenerateLemmas.{idle_does}
use Rattle.pinot_run.proofs.script.run_words.Goals as goal

pub returns-in-Ok : goal.returns-in-Ok
returns-in-Ok g c =
    let old : World = world g.I.Shelf g.D.Shelf g.O.Sink g.N.Sink c.args.inputs.now c.args.depot.now c.args.out.now c.args.notes.now in
    let new : World = world g.I.Shelf g.D.Shelf g.O.Sink g.N.Sink c.run_one.new.inputs c.run_one.new.depot c.run_one.new.out c.run_one.new.notes in
    subst (λ words. DoesOne Promise (request_of words) old c.run_one.result new) (ap (λ l. map string_bytes l) c.as_slice.ensures.value ∙ c.in-Ok.ensures) c.run_one.ensures

pub returns-in-Err : goal.returns-in-Err
returns-in-Err g c =
    let words = words_of c.args.line.now in
    let old : World = world g.I.Shelf g.D.Shelf g.O.Sink g.N.Sink c.args.inputs.now c.args.depot.now c.args.out.now c.args.notes.now in
    let notes : Heard = heard g.N.Sink c.note_fault.new.notes in
    subst (λ s. DoesOne Promise (line_request c.args.line.now) old s (after old.devices old.out notes)) (sym c.note_fault.ensures.status)
    (idle_does (rows_asked words) (command_of words) old notes c.idle_law.ensures c.note_fault.ensures.noted)
