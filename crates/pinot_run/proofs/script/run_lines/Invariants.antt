use Rattle.std.specs.Str.Iter.{lines_steps}
use Rattle.command_model.specs.World.{world}
use Rattle.pinot_run.specs.Text.{lines_of}
use Rattle.pinot_run.proofs.ScriptLemmas.{LinesLeft}
use Rattle.pinot_run.proofs.script.run_lines.Given as goal

abbrev pub invariant-lines : goal.invariant-lines
invariant-lines g l = LinesLeft lines_steps (lines_of l.fn.text)
    (world g.I.Shelf g.D.Shelf g.O.Sink g.N.Sink l.fn.inputs l.fn.depot l.fn.out l.fn.notes)
    (world g.I.Shelf g.D.Shelf g.O.Sink g.N.Sink l.inputs l.depot l.out l.notes) l.line-iterator
