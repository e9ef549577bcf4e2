use Rattle.std.proofs.Common.{Err, subst}
use Rattle.outside.specs.Seen.{seen}
use Rattle.command_words.specs.declared.note.Note.TheVariants as note
use Rattle.command_words.specs.declared.stop.Stop.TheVariants as stop
use Rattle.command_model.specs.World.{Devices, devices}
use Rattle.serve_lines.specs.Calls.{AnswersLine}
use Rattle.serve_lines.specs.Kept.{Kept, kept_of}
use Rattle.serve_lines.proofs.LineLemmas.{no_words}
use Rattle.serve_lines.proofs.line.answer_line.Goals as goal

pub returns-in-None-clause-answers : goal.returns-in-None-clause-answers
returns-in-None-clause-answers g c =
    let old : Devices = devices g.I.Shelf g.D.Shelf c.args.inputs.now c.args.depot.now in
    let kept : Kept = kept_of c.args.session.now in
    subst (λ line. AnswersLine c.args.number line old old kept kept (Err (stop.Refused note.BadWords))) c.in-None.ensures.spelled
    (no_words (seen g.I.Shelf c.args.inputs.now) (seen g.D.Shelf c.args.depot.now) c.args.number kept)
