use Rattle.std.proofs.Common.{inl, refl, sym, ◌∙◌}
use Rattle.outside.specs.Seen.{heard}
use Rattle.command_model.specs.World.{beside, world}
use Rattle.serve_lines.specs.Kept.{kept_of}
use Rattle.pinot_run.proofs.ServeLemmas.{mark_led}
use Rattle.pinot_run.proofs.serve.serve_line.Goals as goal

pub returns-then-is_fault-clause-line : goal.returns-then-is_fault-clause-line
returns-then-is_fault-clause-line g c = record {
  said = c.give_line-said.result;
  between = beside (kept_of c.give_line-said.new.session) (world g.I.Shelf g.D.Shelf g.O.Sink g.N.Sink c.give_line-said.new.inputs c.give_line-said.new.depot c.give_line-said.new.out c.give_line-said.new.notes);
  does = c.give_line-said.ensures.line;
  stops = inl (sym c.is_fault.ensures ∙ c.if-is_fault.true, refl, refl);
}

pub returns-clause-line : goal.returns-clause-line
returns-clause-line g c =
    mark_led c.args.number c.args.line.now (beside (kept_of c.args.session.now) (world g.I.Shelf g.D.Shelf g.O.Sink g.N.Sink c.args.inputs.now c.args.depot.now c.args.out.now c.args.notes.now))
    (beside (kept_of c.give_line-said.new.session) (world g.I.Shelf g.D.Shelf g.O.Sink g.N.Sink c.give_line-said.new.inputs c.give_line-said.new.depot c.give_line-said.new.out c.give_line-said.new.notes)) c.give_line-said.result c.give_line-said.ensures.line
    (sym c.is_fault.ensures ∙ c.if-is_fault.false) c.give_mark.result (heard g.O.Sink c.give_mark.new.out) (heard g.N.Sink c.give_mark.new.notes) c.give_mark.ensures
