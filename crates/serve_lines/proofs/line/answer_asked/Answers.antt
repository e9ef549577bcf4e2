use Rattle.std.proofs.Common.{◌≡◌, ◌⊎◌, ◌∙◌, Err, Ok, Some, refl, subst, sym}
use Rattle.outside.specs.Seen.{Seen, seen}
use Rattle.command_words.specs.ServeView.{line_view}
use Rattle.command_words.specs.declared.fault.Fault.TheVariants as fault
use Rattle.command_words.specs.declared.note.Note.TheVariants as note
use Rattle.command_words.specs.declared.stop.Stop.TheVariants as stop
use Rattle.serve_lines.specs.Calls.{AnswersLine}
use Rattle.serve_lines.specs.Kept.{cursors_of, kept_of}
use Rattle.serve_lines.proofs.LineLemmas.{found_as, found_line, no_cursor, unfound}
use Rattle.serve_lines.proofs.SessionLemmas.{halted, none_by, none_open, not_none, session_over, session_with}
use Rattle.serve_lines.proofs.line.answer_asked.Goals.{else-is_none-via-else-is_none, else-is_none-via-then-is_none+else-is_on_cursor}
use Rattle.serve_lines.proofs.line.answer_asked.Goals as goal

pub returns-then-is_on_cursor-clause-answers : goal.returns-then-is_on_cursor-clause-answers
returns-then-is_on_cursor-clause-answers g c =
    no_cursor (seen g.I.Shelf c.args.inputs.now) (seen g.D.Shelf c.args.depot.now) c.args.number (line_view c.args.line) (kept_of c.args.session.now) c.no_cursor.result (sym c.is_on_cursor.ensures ∙ c.if-is_on_cursor.true)
    (none_open c.args.session.now.serving c.args.session.now.table (none_by c.args.session.now.table c.is_none.result c.is_none.ensures c.if-is_none.true) c.requires.session)
    (subst (λ n. (c.no_cursor.result ≡ stop.Refused (note.NoCursor n)) ⊎ (c.no_cursor.result ≡ stop.Fault fault.Memory)) c.name_in.ensures c.no_cursor.ensures)

pub returns-in_err-find_table-clause-answers : goal.returns-in_err-find_table-clause-answers
returns-in_err-find_table-clause-answers g c =
    let i : Seen = seen g.I.Shelf c.args.inputs.now in
    let d : Seen = seen g.D.Shelf c.args.depot.now in
    let e : Seen = seen g.D.Shelf c.find_table.new.depot in
    let why = c.in_err-find_table.field-0.0 in
    halted (λ result. AnswersLine c.args.number (Some (line_view c.args.line)) (record { inputs = i; depot = d }) (record { inputs = i; depot = e }) (kept_of c.args.session.now) (record { table = c.find_table.new.table; cursors = cursors_of c.args.session.now.serving }) result)
    c.from_residual.result why c.from_residual.ensures.1
    (unfound c.args.number (line_view c.args.line) i d e (cursors_of c.args.session.now.serving) c.args.session.now.table c.find_table.new.table why
    (λ none. elim c.else-is_none.branch [
      | else-is_none-via-then-is_none+else-is_on_cursor w ↦ sym w.is_on_cursor.ensures ∙ w.if-is_on_cursor.false
      | else-is_none-via-else-is_none w ↦ not_none c.args.session.now.table c.is_none.result c.is_none.ensures w.if-is_none.false none
    ]) c.in_err-find_table.ensures)

pub returns-clause-answers : goal.returns-clause-answers
returns-clause-answers g c =
    let i : Seen = seen g.I.Shelf c.args.inputs.now in
    let j : Seen = seen g.I.Shelf c.answer_over.new.inputs in
    let d : Seen = seen g.D.Shelf c.args.depot.now in
    let m : Seen = seen g.D.Shelf c.find_table.new.depot in
    let e : Seen = seen g.D.Shelf c.answer_over.new.depot in
    subst (λ o. AnswersLine c.args.number (Some (line_view c.args.line)) (record { inputs = i; depot = d }) (record { inputs = j; depot = e }) (kept_of c.args.session.now) (record { table = o; cursors = cursors_of c.answer_over.new.serving }) c.answer_over.result) (sym c.in-Some.is)
    (found_line c.args.number (line_view c.args.line) i j d m e (cursors_of c.args.session.now.serving) (cursors_of c.answer_over.new.serving) c.args.session.now.table c.in-Some.table
    (found_as c.args.session.now.table c.find_table.new.table d m c.in-Some.table c.in_ok-find_table.ensures c.in-Some.is) c.answer_over.result c.answer_over.ensures.answers)
