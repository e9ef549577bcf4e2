use Rattle.std.proofs.Common.{◌∙◌, ap, sym}
use Rattle.std.proofs.lemmas.Iterator.Splits.{YieldsList-from_lines}
use Rattle.std.specs.Str.Iter.{lines_rest, lines_steps}
use Rattle.std.specs.Str.Lines as text
use Rattle.command_model.specs.World.{World, world}
use Rattle.pinot_run.specs.Text.{lines_of}
use Rattle.pinot_run.proofs.ScriptLemmas.{has_none, has_some, line_empty, line_last, line_run, none_left}
use Rattle.pinot_run.proofs.script.run_lines.Goals as goal

pub lines-init : goal.lines-init
lines-init g c = record {
  rest = text.lines c.args.text.now;
  yields = YieldsList-from_lines c.args.text.now (ap lines_rest c.into_iter-line-iterator.ensures.into_iter_gives ∙ c.lines-line-items.ensures.rest);
  runs = λ ended new r. r;
}

pub lines-preserved-then-is_empty : goal.lines-preserved-then-is_empty
lines-preserved-then-is_empty g c =
    let start : World = world g.I.Shelf g.D.Shelf g.O.Sink g.N.Sink c.args.inputs.now c.args.depot.now c.args.out.now c.args.notes.now in
    let now : World = world g.I.Shelf g.D.Shelf g.O.Sink g.N.Sink c.lines.inputs c.lines.depot c.lines.out c.lines.notes in
    line_empty lines_steps (lines_of c.args.text.now) start now c.lines.line-iterator c.in-Some.line c.next.new.self c.lines.invariant c.in-Some.ensures.steps
    (has_none c.in-Some.line.now (sym c.is_empty.ensures ∙ c.if-is_empty.true))

pub lines-preserved : goal.lines-preserved
lines-preserved g c =
    let start : World = world g.I.Shelf g.D.Shelf g.O.Sink g.N.Sink c.args.inputs.now c.args.depot.now c.args.out.now c.args.notes.now in
    let now : World = world g.I.Shelf g.D.Shelf g.O.Sink g.N.Sink c.lines.inputs c.lines.depot c.lines.out c.lines.notes in
    let next : World = world g.I.Shelf g.D.Shelf g.O.Sink g.N.Sink c.run_line.new.inputs c.run_line.new.depot c.run_line.new.out c.run_line.new.notes in
    line_run lines_steps (lines_of c.args.text.now) start now c.lines.line-iterator c.in-Some.line c.next.new.self next c.lines.invariant c.in-Some.ensures.steps
    (has_some c.in-Some.line.now (sym c.is_empty.ensures ∙ c.if-is_empty.false)) c.in-Ok.ensures

pub returns-in-Err : goal.returns-in-Err
returns-in-Err g c =
    let start : World = world g.I.Shelf g.D.Shelf g.O.Sink g.N.Sink c.args.inputs.now c.args.depot.now c.args.out.now c.args.notes.now in
    let now : World = world g.I.Shelf g.D.Shelf g.O.Sink g.N.Sink c.lines.inputs c.lines.depot c.lines.out c.lines.notes in
    let new : World = world g.I.Shelf g.D.Shelf g.O.Sink g.N.Sink c.run_line.new.inputs c.run_line.new.depot c.run_line.new.out c.run_line.new.notes in
    line_last lines_steps (lines_of c.args.text.now) start now c.lines.line-iterator c.in-Some.line c.next.new.self c.in-Err.ended new c.lines.invariant c.in-Some.ensures.steps
    (has_some c.in-Some.line.now (sym c.is_empty.ensures ∙ c.if-is_empty.false)) c.in-Err.ensures

pub returns : goal.returns
returns g c =
    let start : World = world g.I.Shelf g.D.Shelf g.O.Sink g.N.Sink c.args.inputs.now c.args.depot.now c.args.out.now c.args.notes.now in
    let now : World = world g.I.Shelf g.D.Shelf g.O.Sink g.N.Sink c.lines.inputs c.lines.depot c.lines.out c.lines.notes in
    none_left lines_steps (lines_of c.args.text.now) start now c.lines.line-iterator c.next.new.self c.lines.invariant c.in-None.ensures.steps
