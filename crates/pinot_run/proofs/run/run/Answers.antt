use Rattle.std.proofs.Common.{◌∙◌, Err, ap, map, string_bytes, subst, sym}
use Rattle.command_words.specs.Command.{command_of}
use Rattle.command_words.specs.Notes.{is_fault}
use Rattle.pinot_run.specs.Promise.{Noted, Promise}
use Rattle.command_model.specs.Ran.{Ran}
use Rattle.outside.specs.Seen.{Heard, heard}
use Rattle.command_model.specs.World.{devices, world}
use Rattle.pinot_run.proofs.PromiseLemmas.{after, fault_promise, faults_are, line_promise, text_promise}
use Rattle.pinot_run.proofs.run.run.Goals as goal

pub returns-in-Ok : goal.returns-in-Ok
returns-in-Ok g c =
    text_promise (command_of (map string_bytes c.args.words.now)) (world g.I.Shelf g.D.Shelf g.O.Sink g.N.Sink c.args.inputs.now c.args.depot.now c.args.out.now c.args.notes.now)
    (devices g.I.Shelf g.D.Shelf c.reply_to.new.inputs c.reply_to.new.depot) c.in-Ok.text c.give_text.result (heard g.O.Sink c.give_text.new.out) (heard g.N.Sink c.give_text.new.notes) c.in-Ok.ensures
    (record { ends = c.give_text.ensures.status; done = c.give_text.ensures.done; cut = c.give_text.ensures.cut; prefix = c.give_text.ensures.prefix; later = c.give_text.ensures.later; unchanged = c.give_text.ensures.unchanged; noted = c.give_text.ensures.noted })

pub returns-in-Err-Refused : goal.returns-in-Err-Refused
returns-in-Err-Refused g c =
    line_promise (command_of (map string_bytes c.args.words.now)) (world g.I.Shelf g.D.Shelf g.O.Sink g.N.Sink c.args.inputs.now c.args.depot.now c.args.out.now c.args.notes.now)
    (devices g.I.Shelf g.D.Shelf c.reply_to.new.inputs c.reply_to.new.depot) c.in-Err-Refused.note c.give_note.result (heard g.N.Sink c.give_note.new.notes)
    (subst (λ s. Ran (command_of (map string_bytes c.args.words.now)) (devices g.I.Shelf g.D.Shelf c.args.inputs.now c.args.depot.now) (devices g.I.Shelf g.D.Shelf c.reply_to.new.inputs c.reply_to.new.depot) (Err s)) c.in-Err-Refused.field-0-is c.in-Err-Refused.ensures)
    (record { ends = c.give_note.ensures.status; done = c.give_note.ensures.done; cut = c.give_note.ensures.cut; noted = c.give_note.ensures.noted })

pub note_fault-requires : goal.note_fault-requires
note_fault-requires g c = ap is_fault c.status_of_fault.ensures ∙ faults_are c.in-Err-Fault.fault

pub returns-in-Err-Fault : goal.returns-in-Err-Fault
returns-in-Err-Fault g c =
    let command = command_of (map string_bytes c.args.words.now) in
    let old = world g.I.Shelf g.D.Shelf g.O.Sink g.N.Sink c.args.inputs.now c.args.depot.now c.args.out.now c.args.notes.now in
    let left = devices g.I.Shelf g.D.Shelf c.reply_to.new.inputs c.reply_to.new.depot in
    let notes : Heard = heard g.N.Sink c.note_fault.new.notes in
    let why = c.in-Err-Fault.fault in
    let status = c.status_of_fault.ensures in
    subst (λ s. Promise command old s (after left old.out notes)) (sym (c.note_fault.ensures.status ∙ status))
    (fault_promise command old left why notes
    (subst (λ s. Ran command (devices g.I.Shelf g.D.Shelf c.args.inputs.now c.args.depot.now) left (Err s)) c.in-Err-Fault.field-0-is c.in-Err-Fault.ensures)
    (subst (λ s. Noted s (heard g.N.Sink c.args.notes.now) notes) status c.note_fault.ensures.noted))
