use Rattle.std.proofs.Common.{◌∙◌, Err, Some, ap, inl, inr, refl, subst, sym}
use Rattle.std.specs.Str.Lines.{lines}
use Rattle.outside.specs.Seen.{Heard, heard, seen}
use Rattle.command_words.specs.Command.{Open}
use Rattle.command_words.specs.Notes.{is_fault}
use Rattle.command_words.specs.declared.status.Status.TheVariants as status
use Rattle.command_model.specs.Ran.{Ran}
use Rattle.command_model.specs.World.{Devices, World, devices, world}
use Rattle.pinot_run.specs.Promise.{Noted}
use Rattle.pinot_run.specs.Serve.{RunsServe, ServesLines}
use Rattle.pinot_run.proofs.PromiseLemmas.{after, fault_promise, faults_are, line_promise, text_promise}
use Rattle.pinot_run.proofs.ScriptLemmas.{fault_not_done, gave_none, note_not_done}
use Rattle.pinot_run.proofs.serve.run_serve.Goals as goal

pub returns-in-Ok : goal.returns-in-Ok
returns-in-Ok g c =
    let file = c.args.file.now in
    let old : World = world g.I.Shelf g.D.Shelf g.O.Sink g.N.Sink c.args.inputs.now c.args.depot.now c.args.out.now c.args.notes.now in
    let left : Devices = devices g.I.Shelf g.D.Shelf c.open_script.new.inputs c.args.depot.now in
    let new : World = world g.I.Shelf g.D.Shelf g.O.Sink g.N.Sink c.serve_text.new.inputs c.serve_text.new.depot c.serve_text.new.out c.serve_text.new.notes in
    let opened : World = after left old.out old.notes in
    record {
      said = status.Done;
      opened = opened;
      opens = text_promise (Some (Open file)) old left _ status.Done old.out old.notes (c.in-Ok.ensures.ran (seen g.D.Shelf c.args.depot.now)) (gave_none old.out old.notes);
      follows = inr (
        refl,
        c.in-Ok.text,
        c.in-Ok.ensures.text,
        subst (λ t. ServesLines (lines t) opened c.serve_text.result new) c.as_str.ensures c.serve_text.ensures,
      );
    }

pub returns-in-Err-Refused : goal.returns-in-Err-Refused
returns-in-Err-Refused g c =
    let file = c.args.file.now in
    let old : World = world g.I.Shelf g.D.Shelf g.O.Sink g.N.Sink c.args.inputs.now c.args.depot.now c.args.out.now c.args.notes.now in
    let left : Devices = devices g.I.Shelf g.D.Shelf c.open_script.new.inputs c.args.depot.now in
    let notes : Heard = heard g.N.Sink c.give_note.new.notes in
    let ran = c.in-Err-Refused.ensures.ran (seen g.D.Shelf c.args.depot.now) in
    record {
      said = c.give_note.result;
      opened = after left old.out notes;
      opens = line_promise (Some (Open file)) old left c.in-Err-Refused.note c.give_note.result notes
          (subst (λ s. Ran (Some (Open file)) old.devices left (Err s)) c.in-Err-Refused.field-0-is ran)
          (record { ends = c.give_note.ensures.status; done = c.give_note.ensures.done; cut = c.give_note.ensures.cut; noted = c.give_note.ensures.noted });
      follows = inl (note_not_done c.in-Err-Refused.note c.give_note.result c.give_note.ensures.status, refl, refl);
    }

pub note_fault-requires : goal.note_fault-requires
note_fault-requires g c = ap is_fault c.status_of_fault.ensures ∙ faults_are c.in-Err-Fault.fault

pub returns-in-Err-Fault : goal.returns-in-Err-Fault
returns-in-Err-Fault g c =
    let file = c.args.file.now in
    let old : World = world g.I.Shelf g.D.Shelf g.O.Sink g.N.Sink c.args.inputs.now c.args.depot.now c.args.out.now c.args.notes.now in
    let left : Devices = devices g.I.Shelf g.D.Shelf c.open_script.new.inputs c.args.depot.now in
    let notes : Heard = heard g.N.Sink c.note_fault.new.notes in
    let ran = c.in-Err-Fault.ensures.ran (seen g.D.Shelf c.args.depot.now) in
    let why = c.in-Err-Fault.fault in
    let own = c.status_of_fault.ensures in
    subst (λ s. RunsServe file old s (after left old.out notes)) (sym (c.note_fault.ensures.status ∙ own))
    (record {
      said = _;
      opened = after left old.out notes;
      opens = fault_promise (Some (Open file)) old left why notes
          (subst (λ s. Ran (Some (Open file)) old.devices left (Err s)) c.in-Err-Fault.field-0-is ran)
          (subst (λ s. Noted s (heard g.N.Sink c.args.notes.now) notes) own c.note_fault.ensures.noted);
      follows = inl (fault_not_done why, refl, refl);
    })
