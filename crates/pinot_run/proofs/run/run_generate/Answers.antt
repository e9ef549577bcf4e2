use Rattle.std.proofs.Common.{◌∙◌, Err, ap, subst, sym}
use Rattle.outside.specs.Seen.{Heard, heard, seen}
use Rattle.command_words.specs.Notes.{is_fault}
use Rattle.command_model.specs.Through.{RanGenerate}
use Rattle.command_model.specs.World.{Devices, World}
use Rattle.pinot_run.specs.Generate.{Generates, after}
use Rattle.pinot_run.specs.Promise.{Noted, Promise}
use Rattle.pinot_run.proofs.GenerateLemmas.{told_fault, told_note, told_text}
use Rattle.pinot_run.proofs.PromiseLemmas.{faults_are}
use Rattle.pinot_run.proofs.run.run_generate.Goals as goal

pub returns-in-Ok : goal.returns-in-Ok
returns-in-Ok g c = λ inputs.
    let left : Devices = record { inputs = inputs; depot = seen g.D.Shelf c.generate.new.depot } in
    let old : World = after (record { inputs = inputs; depot = seen g.D.Shelf c.args.depot.now }) (heard g.O.Sink c.args.out.now) (heard g.N.Sink c.args.notes.now) in
    told_text c.args.rows old left c.in-Ok.text c.give_text.result (heard g.O.Sink c.give_text.new.out) (heard g.N.Sink c.give_text.new.notes) (c.in-Ok.ensures inputs)
    (record { ends = c.give_text.ensures.status; done = c.give_text.ensures.done; cut = c.give_text.ensures.cut; prefix = c.give_text.ensures.prefix; later = c.give_text.ensures.later; unchanged = c.give_text.ensures.unchanged; noted = c.give_text.ensures.noted })

pub returns-in-Err-Refused : goal.returns-in-Err-Refused
returns-in-Err-Refused g c = λ inputs.
    let first : Devices = record { inputs = inputs; depot = seen g.D.Shelf c.args.depot.now } in
    let left : Devices = record { inputs = inputs; depot = seen g.D.Shelf c.generate.new.depot } in
    let old : World = after first (heard g.O.Sink c.args.out.now) (heard g.N.Sink c.args.notes.now) in
    told_note c.args.rows old left c.in-Err-Refused.note c.give_note.result (heard g.N.Sink c.give_note.new.notes)
    (subst (λ s. RanGenerate c.args.rows first left (Err s)) c.in-Err-Refused.field-0-is (c.in-Err-Refused.ensures inputs))
    (record { ends = c.give_note.ensures.status; done = c.give_note.ensures.done; cut = c.give_note.ensures.cut; noted = c.give_note.ensures.noted })

pub note_fault-requires : goal.note_fault-requires
note_fault-requires g c = ap is_fault c.status_of_fault.ensures ∙ faults_are c.in-Err-Fault.fault

pub returns-in-Err-Fault : goal.returns-in-Err-Fault
returns-in-Err-Fault g c = λ inputs.
    let first : Devices = record { inputs = inputs; depot = seen g.D.Shelf c.args.depot.now } in
    let left : Devices = record { inputs = inputs; depot = seen g.D.Shelf c.generate.new.depot } in
    let old : World = after first (heard g.O.Sink c.args.out.now) (heard g.N.Sink c.args.notes.now) in
    let notes : Heard = heard g.N.Sink c.note_fault.new.notes in
    let why = c.in-Err-Fault.fault in
    let status = c.status_of_fault.ensures in
    subst (λ s. Generates Promise c.args.rows old s (after left old.out notes)) (sym (c.note_fault.ensures.status ∙ status))
    (told_fault c.args.rows old left why notes
    (subst (λ s. RanGenerate c.args.rows first left (Err s)) c.in-Err-Fault.field-0-is (c.in-Err-Fault.ensures inputs))
    (subst (λ s. Noted s (heard g.N.Sink c.args.notes.now) notes) status c.note_fault.ensures.noted))
