use Rattle.std.proofs.Common.{map, string_bytes, subst}
use Rattle.outside.specs.Seen.{seen}
use Rattle.command_words.specs.Command.{command_of, unless_rows}
use Rattle.command_model.specs.World.{World, world}
use Rattle.pinot_run.specs.Promise.{Promise}
use Rattle.pinot_run.specs.Script.{DoesOne}
use Rattle.pinot_run.proofs.run.run_one.Goals as goal

pub returns-in-Some : goal.returns-in-Some
returns-in-Some g c =
    let old : World = world g.I.Shelf g.D.Shelf g.O.Sink g.N.Sink c.args.inputs.now c.args.depot.now c.args.out.now c.args.notes.now in
    let new : World = world g.I.Shelf g.D.Shelf g.O.Sink g.N.Sink c.args.inputs.now c.run_generate.new.depot c.run_generate.new.out c.run_generate.new.notes in
    subst (λ o. DoesOne Promise (unless_rows o (command_of (map string_bytes c.args.words.now))) old c.run_generate.result new) c.in-Some.ensures (c.run_generate.ensures (seen g.I.Shelf c.args.inputs.now))

pub returns-in-None : goal.returns-in-None
returns-in-None g c =
    let old : World = world g.I.Shelf g.D.Shelf g.O.Sink g.N.Sink c.args.inputs.now c.args.depot.now c.args.out.now c.args.notes.now in
    let new : World = world g.I.Shelf g.D.Shelf g.O.Sink g.N.Sink c.run.new.inputs c.run.new.depot c.run.new.out c.run.new.notes in
    subst (λ o. DoesOne Promise (unless_rows o (command_of (map string_bytes c.args.words.now))) old c.run.result new) c.in-None.ensures c.run.ensures
