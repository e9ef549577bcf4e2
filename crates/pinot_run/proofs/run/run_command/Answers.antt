use Rattle.std.proofs.Common.{map, string_bytes}
use Rattle.command_words.specs.Command.{Request, call_of}
use Rattle.command_words.specs.declared.status.Status.{Status}
use Rattle.command_model.specs.World.{World, world}
use Rattle.pinot_run.proofs.ScriptLemmas.{of_one, of_rows, of_script, of_serve}
use Rattle.pinot_run.proofs.run.run_command.Goals as goal

pub returns : goal.returns
returns g c =
    let request : Request = call_of (map string_bytes c.args.words.now) in
    let old : World = world g.I.Shelf g.D.Shelf g.O.Sink g.N.Sink c.args.inputs.now c.args.depot.now c.args.out.now c.args.notes.now in
    let new : World = world g.I.Shelf g.D.Shelf g.O.Sink g.N.Sink c.run_call.new.inputs c.run_call.new.depot c.run_call.new.out c.run_call.new.notes in
    let ended : Status = c.run_call.result in
    let does = c.run_call.ensures in
    record {
      step = of_one _ request old ended new (λ command p. p.step) does;
      leaves = of_one _ request old ended new (λ command p. p.leaves) does;
      complete = of_one _ request old ended new (λ command p. p.complete) does;
      notes = of_one _ request old ended new (λ command p. p.notes) does;
      counted = of_one _ request old ended new (λ command p. p.counted) does;
      touched = of_one _ request old ended new (λ command p. p.touched) does;
      reads = of_one _ request old ended new (λ command p. p.reads) does;
      script = of_script request old ended new does;
      serve = of_serve request old ended new does;
      generates = of_rows request old ended new does;
    }
