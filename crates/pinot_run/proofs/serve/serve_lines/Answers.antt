use Rattle.std.proofs.Common.{◌+◌, ◌∙◌, ap, arith, subst, sym}
use Rattle.std.proofs.lemmas.Iterator.Splits.{YieldsList-from_lines}
use Rattle.std.specs.Str.Iter.{lines_rest, lines_steps}
use Rattle.std.specs.Str.Lines as text
use Rattle.command_model.specs.World.{Stage, beside, world}
use Rattle.serve_lines.specs.Kept.{Kept, kept_of}
use Rattle.pinot_run.specs.Serve.{EndsHere, LeadsOn, ServesLine}
use Rattle.pinot_run.proofs.ServeLemmas.{NumbersLeft, more_lines, none_there, number_empty, number_last, number_run, number_small, numbers_done, some_there}
use Rattle.pinot_run.proofs.serve.serve_lines.Goals as goal

pub lines-init : goal.lines-init
lines-init g c = record {
  left = record {
    rest = text.lines c.args.text.now;
    yields = YieldsList-from_lines c.args.text.now (ap lines_rest c.into_iter-line-iterator.ensures.into_iter_gives ∙ c.lines-line-items.ensures.rest);
    many = omega arith;
    runs = λ ended new r. r;
  };
  session = c.requires.session;
}

pub lines-preserved-in_default : goal.lines-preserved-in_default
lines-preserved-in_default g c =
    let start : Stage Kept = beside (kept_of c.args.session.now) (world g.I.Shelf g.D.Shelf g.O.Sink g.N.Sink c.args.inputs.now c.args.depot.now c.args.out.now c.args.notes.now) in
    let now : Stage Kept = beside (kept_of c.lines.session) (world g.I.Shelf g.D.Shelf g.O.Sink g.N.Sink c.lines.inputs c.lines.depot c.lines.out c.lines.notes) in
    record {
      left = subst (λ n. NumbersLeft lines_steps (text.lines c.args.text.now) start now n c.next.new.self) (sym c.count_line.ensures.counted)
          (number_empty lines_steps (text.lines c.args.text.now) start now c.lines.count c.lines.line-iterator c.in-Some.line c.next.new.self c.lines.invariant.left c.in-Some.ensures.steps
          (none_there c.in-Some.line.now c.in_default.ensures.numbered));
      session = c.lines.invariant.session;
    }

pub lines-preserved : goal.lines-preserved
lines-preserved g c =
    let start : Stage Kept = beside (kept_of c.args.session.now) (world g.I.Shelf g.D.Shelf g.O.Sink g.N.Sink c.args.inputs.now c.args.depot.now c.args.out.now c.args.notes.now) in
    let now : Stage Kept = beside (kept_of c.lines.session) (world g.I.Shelf g.D.Shelf g.O.Sink g.N.Sink c.lines.inputs c.lines.depot c.lines.out c.lines.notes) in
    let next : Stage Kept = beside (kept_of c.serve_line.new.session) (world g.I.Shelf g.D.Shelf g.O.Sink g.N.Sink c.serve_line.new.inputs c.serve_line.new.depot c.serve_line.new.out c.serve_line.new.notes) in
    record {
      left = subst (λ n. NumbersLeft lines_steps (text.lines c.args.text.now) start next n c.next.new.self) (sym c.count_line.ensures.counted)
          (number_run lines_steps (text.lines c.args.text.now) start now c.lines.count c.lines.line-iterator c.in-Some.line c.next.new.self next c.lines.invariant.left c.in-Some.ensures.steps
          (some_there c.in-Some.line.now c.in-Some-count_line.ensures.numbered.1)
          (subst (λ n. LeadsOn ServesLine n c.in-Some.line.now now next) c.in-Some-count_line.ensures.numbered.0 c.in-Ok.ensures.line));
      session = c.in-Ok.ensures.session;
    }

pub count_line-requires : goal.count_line-requires
count_line-requires g c =
    let start : Stage Kept = beside (kept_of c.args.session.now) (world g.I.Shelf g.D.Shelf g.O.Sink g.N.Sink c.args.inputs.now c.args.depot.now c.args.out.now c.args.notes.now) in
    let now : Stage Kept = beside (kept_of c.lines.session) (world g.I.Shelf g.D.Shelf g.O.Sink g.N.Sink c.lines.inputs c.lines.depot c.lines.out c.lines.notes) in
    number_small (c.lines.count + 1) c.args.text.now
    (more_lines lines_steps (text.lines c.args.text.now) start now c.lines.count c.lines.line-iterator c.in-Some.line c.next.new.self c.lines.invariant.left c.in-Some.ensures.steps)
    c.requires.short

pub serve_line-requires-clause-small : goal.serve_line-requires-clause-small
serve_line-requires-clause-small g c =
    let start : Stage Kept = beside (kept_of c.args.session.now) (world g.I.Shelf g.D.Shelf g.O.Sink g.N.Sink c.args.inputs.now c.args.depot.now c.args.out.now c.args.notes.now) in
    let now : Stage Kept = beside (kept_of c.lines.session) (world g.I.Shelf g.D.Shelf g.O.Sink g.N.Sink c.lines.inputs c.lines.depot c.lines.out c.lines.notes) in
    let small = number_small (c.lines.count + 1) c.args.text.now
    (more_lines lines_steps (text.lines c.args.text.now) start now c.lines.count c.lines.line-iterator c.in-Some.line c.next.new.self c.lines.invariant.left c.in-Some.ensures.steps)
    c.requires.short in
    omega (arith, small, c.in-Some-count_line.ensures.numbered.0)

pub returns-in-Err-clause-lines : goal.returns-in-Err-clause-lines
returns-in-Err-clause-lines g c =
    let start : Stage Kept = beside (kept_of c.args.session.now) (world g.I.Shelf g.D.Shelf g.O.Sink g.N.Sink c.args.inputs.now c.args.depot.now c.args.out.now c.args.notes.now) in
    let now : Stage Kept = beside (kept_of c.lines.session) (world g.I.Shelf g.D.Shelf g.O.Sink g.N.Sink c.lines.inputs c.lines.depot c.lines.out c.lines.notes) in
    let last : Stage Kept = beside (kept_of c.serve_line.new.session) (world g.I.Shelf g.D.Shelf g.O.Sink g.N.Sink c.serve_line.new.inputs c.serve_line.new.depot c.serve_line.new.out c.serve_line.new.notes) in
    number_last lines_steps (text.lines c.args.text.now) start now c.lines.count c.lines.line-iterator c.in-Some.line c.next.new.self c.in-Err.ended last c.lines.invariant.left c.in-Some.ensures.steps
    (some_there c.in-Some.line.now c.in-Some-count_line.ensures.numbered.1)
    (subst (λ n. EndsHere ServesLine n c.in-Some.line.now now c.in-Err.ended last) c.in-Some-count_line.ensures.numbered.0 c.in-Err.ensures.line)

pub returns-clause-lines : goal.returns-clause-lines
returns-clause-lines g c =
    let start : Stage Kept = beside (kept_of c.args.session.now) (world g.I.Shelf g.D.Shelf g.O.Sink g.N.Sink c.args.inputs.now c.args.depot.now c.args.out.now c.args.notes.now) in
    let now : Stage Kept = beside (kept_of c.lines.session) (world g.I.Shelf g.D.Shelf g.O.Sink g.N.Sink c.lines.inputs c.lines.depot c.lines.out c.lines.notes) in
    numbers_done lines_steps (text.lines c.args.text.now) start now c.lines.count c.lines.line-iterator c.next.new.self c.lines.invariant.left c.in-None.ensures.steps
