use Rattle.std.proofs.Common.{subst, sym}
use Rattle.command_words.specs.CommandView.{batch_view}
use Rattle.command_model.specs.World.{World, world}
use Rattle.pinot_run.specs.Promise.{Promise}
use Rattle.pinot_run.specs.Script.{Does}
use Rattle.pinot_run.specs.Serve.{RunsServe}
use Rattle.pinot_run.proofs.ScriptLemmas.{does_one}
use Rattle.pinot_run.proofs.run.run_call.Goals as goal

pub returns-in-Some-Script : goal.returns-in-Some-Script
returns-in-Some-Script g c =
    let old : World = world g.I.Shelf g.D.Shelf g.O.Sink g.N.Sink c.args.inputs.now c.args.depot.now c.args.out.now c.args.notes.now in
    let new : World = world g.I.Shelf g.D.Shelf g.O.Sink g.N.Sink c.run_script.new.inputs c.run_script.new.depot c.run_script.new.out c.run_script.new.notes in
    subst (λ r. Does Promise RunsServe r old c.run_script.result new) (sym c.in-Some-Script.ensures)
    (subst (λ b. Does Promise RunsServe (batch_view b) old c.run_script.result new) (sym c.in-Some-Script.field-0-is) c.run_script.ensures)

pub returns-in-Some-Serve : goal.returns-in-Some-Serve
returns-in-Some-Serve g c =
    let old : World = world g.I.Shelf g.D.Shelf g.O.Sink g.N.Sink c.args.inputs.now c.args.depot.now c.args.out.now c.args.notes.now in
    let new : World = world g.I.Shelf g.D.Shelf g.O.Sink g.N.Sink c.run_serve.new.inputs c.run_serve.new.depot c.run_serve.new.out c.run_serve.new.notes in
    subst (λ r. Does Promise RunsServe r old c.run_serve.result new) (sym c.in-Some-Serve.ensures)
    (subst (λ b. Does Promise RunsServe (batch_view b) old c.run_serve.result new) (sym c.in-Some-Serve.field-0-is) c.run_serve.ensures)

pub returns-in-None : goal.returns-in-None
returns-in-None g c =
    let old : World = world g.I.Shelf g.D.Shelf g.O.Sink g.N.Sink c.args.inputs.now c.args.depot.now c.args.out.now c.args.notes.now in
    let new : World = world g.I.Shelf g.D.Shelf g.O.Sink g.N.Sink c.run_one.new.inputs c.run_one.new.depot c.run_one.new.out c.run_one.new.notes in
    subst (λ r. Does Promise RunsServe r old c.run_one.result new) (sym c.in-None.ensures) (does_one _ old c.run_one.result new c.run_one.ensures)
