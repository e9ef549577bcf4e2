use Rattle.std.proofs.Common.{inl, refl, sym, ◌∙◌}
use Rattle.outside.specs.Seen.{heard}
use Rattle.command_model.specs.World.{world}
use Rattle.pinot_run.proofs.ScriptLemmas.{line_marked}
use Rattle.pinot_run.proofs.script.run_line.Goals as goal

pub returns-then-is_fault : goal.returns-then-is_fault
returns-then-is_fault g c = record {
  said = c.run_words-said.result;
  between = world g.I.Shelf g.D.Shelf g.O.Sink g.N.Sink c.run_words-said.new.inputs c.run_words-said.new.depot c.run_words-said.new.out c.run_words-said.new.notes;
  does = c.run_words-said.ensures;
  stops = inl (sym c.is_fault.ensures ∙ c.if-is_fault.true, refl, refl);
}

pub returns : goal.returns
returns g c =
    line_marked c.args.line.now (world g.I.Shelf g.D.Shelf g.O.Sink g.N.Sink c.args.inputs.now c.args.depot.now c.args.out.now c.args.notes.now)
    (world g.I.Shelf g.D.Shelf g.O.Sink g.N.Sink c.run_words-said.new.inputs c.run_words-said.new.depot c.run_words-said.new.out c.run_words-said.new.notes) c.run_words-said.result c.run_words-said.ensures
    (sym c.is_fault.ensures ∙ c.if-is_fault.false) c.give_mark.result (heard g.O.Sink c.give_mark.new.out) (heard g.N.Sink c.give_mark.new.notes) c.give_mark.ensures
