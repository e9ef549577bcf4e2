use Rattle.std.specs.Str.Iter.{lines_steps}
use Rattle.std.specs.Str.Lines as text
use Rattle.command_model.specs.World.{beside, world}
use Rattle.serve_lines.specs.Kept.{IsSession, kept_of}
use Rattle.pinot_run.proofs.ServeLemmas.{NumbersLeft}
use Rattle.pinot_run.proofs.serve.serve_lines.Given as goal

abbrev pub invariant-lines : goal.invariant-lines
invariant-lines g l = record {
  left : NumbersLeft lines_steps (text.lines l.fn.text)
      (beside (kept_of l.fn.session) (world g.I.Shelf g.D.Shelf g.O.Sink g.N.Sink l.fn.inputs l.fn.depot l.fn.out l.fn.notes))
      (beside (kept_of l.session) (world g.I.Shelf g.D.Shelf g.O.Sink g.N.Sink l.inputs l.depot l.out l.notes)) l.count l.line-iterator;
  session : IsSession l.session;
}
