use Rattle.std.proofs.Common.{Ok, inr}
use Rattle.outside.specs.Seen.{heard, seen}
use Rattle.command_model.specs.World.{beside, world}
use Rattle.serve_lines.specs.Kept.{kept_of}
use Rattle.pinot_run.proofs.serve.serve_text.Goals as goal

pub returns-in-Ok-serve_lines : goal.returns-in-Ok-serve_lines
returns-in-Ok-serve_lines g c = inr (
  kept_of c.in-Ok.session,
  seen g.D.Shelf c.begin.new.depot,
  c.in-Ok.ensures.begins,
  Ok c.in-Ok-serve_lines.field-0,
  beside (kept_of c.serve_lines.new.session) (world g.I.Shelf g.D.Shelf g.O.Sink g.N.Sink c.serve_lines.new.inputs c.serve_lines.new.depot c.serve_lines.new.out c.serve_lines.new.notes),
  c.in-Ok-serve_lines.ensures.lines,
  c.end.ensures (seen g.I.Shelf c.serve_lines.new.inputs) (heard g.O.Sink c.serve_lines.new.out),
)
