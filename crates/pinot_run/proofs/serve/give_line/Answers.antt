use Rattle.std.proofs.Common.{Err, refl, subst}
use Rattle.command_words.specs.ServeLine.{serve_line_of}
use Rattle.command_words.specs.declared.stop.Stop.TheVariants as stop
use Rattle.command_model.specs.World.{devices}
use Rattle.serve_lines.specs.Calls.{AnswersLine}
use Rattle.serve_lines.specs.Kept.{kept_of}
use Rattle.pinot_run.specs.Text.{words_of}
use Rattle.pinot_run.proofs.serve.give_line.Goals as goal

pub returns-in-Err-Refused-clause-line : goal.returns-in-Err-Refused-clause-line
returns-in-Err-Refused-clause-line g c = record {
  result = Err (stop.Refused c.in-Err-Refused.note);
  answers = subst
      (λ s. AnswersLine c.args.number (serve_line_of (words_of c.args.line.now)) (devices g.I.Shelf g.D.Shelf c.args.inputs.now c.args.depot.now) (devices g.I.Shelf g.D.Shelf c.reply_to_line.new.inputs c.reply_to_line.new.depot)
      (kept_of c.args.session.now) (kept_of c.reply_to_line.new.session) (Err s))
      c.in-Err-Refused.field-0-is c.in-Err-Refused.ensures.answers;
  gives = (record { ends = c.give_note.ensures.status; done = c.give_note.ensures.done; cut = c.give_note.ensures.cut; noted = c.give_note.ensures.noted }, refl);
}
