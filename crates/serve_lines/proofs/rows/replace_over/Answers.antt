use Rattle.std.proofs.Common.{◌∙◌, Err, Ok, ap, sym}
use Rattle.outside.specs.Seen.{Seen, seen}
use Rattle.values.proofs.RowLemmas.{length-rows}
use Rattle.values.specs.Columns.{rows_of}
use Rattle.values.specs.declared.columns.Columns.{Columns}
use Rattle.segment_build.proofs.FitTests.{fit_tested}
use Rattle.segment_file.specs.Names.{file_of}
use Rattle.command_words.specs.ServeLine.{Replace}
use Rattle.command_model.proofs.CreateLemmas.{other_err}
use Rattle.serve_lines.specs.Calls.{AnswersOver}
use Rattle.serve_lines.specs.Kept.{cursors_of}
use Rattle.serve_lines.specs.Step.{replaced_text}
use Rattle.serve_lines.proofs.SessionLemmas.{halted}
use Rattle.serve_lines.proofs.ReplaceLemmas.{replace_done, replace_missing, replace_not, replace_unread}
use Rattle.serve_lines.proofs.OverLemmas.{counts_copies}
use Rattle.serve_lines.proofs.rows.replace_over.Goals as goal

pub returns-in_err-find_segment-clause-answers : goal.returns-in_err-find_segment-clause-answers
returns-in_err-find_segment-clause-answers g c =
    let i : Seen = seen g.I.Shelf c.args.inputs.now in
    let d : Seen = seen g.D.Shelf c.args.depot.now in
    let m : Seen = seen g.D.Shelf c.find_segment.new.depot in
    let why = c.in_err-find_segment.field-0.0 in
    halted (λ result. AnswersOver c.args.number (Replace c.args.name.now c.args.csv.now) c.args.table.now (record { inputs = i; depot = d }) (record { inputs = i; depot = m }) (cursors_of c.args.serving.now) (cursors_of c.args.serving.now) result)
    c.from_residual.result why c.from_residual.ensures.1
    (replace_missing c.args.number c.args.name.now c.args.csv.now c.args.table.now (cursors_of c.args.serving.now) i d m why c.in_err-find_segment.ensures)

pub returns-in_err-columns-clause-answers : goal.returns-in_err-columns-clause-answers
returns-in_err-columns-clause-answers g c =
    let i : Seen = seen g.I.Shelf c.args.inputs.now in
    let j : Seen = seen g.I.Shelf c.read_rows.new.inputs in
    let d : Seen = seen g.D.Shelf c.args.depot.now in
    let m : Seen = seen g.D.Shelf c.find_segment.new.depot in
    let why = c.in_err-columns.field-0.0 in
    halted (λ result. AnswersOver c.args.number (Replace c.args.name.now c.args.csv.now) c.args.table.now (record { inputs = i; depot = d }) (record { inputs = j; depot = m }) (cursors_of c.args.serving.now) (cursors_of c.args.serving.now) result)
    c.from_residual-in_err-columns.result why c.from_residual-in_err-columns.ensures.1
    (replace_unread c.args.number c.args.name.now c.args.csv.now c.args.table.now (cursors_of c.args.serving.now) i j d m why c.in_ok-find_segment.ensures c.read_rows.ensures.reads.held (λ other. c.in_err-columns.ensures.unchanged (other_err why other)) c.in_err-columns.ensures.stops)

pub returns-in-Ok-clause-answers : goal.returns-in-Ok-clause-answers
returns-in-Ok-clause-answers g c =
    let i : Seen = seen g.I.Shelf c.args.inputs.now in
    let j : Seen = seen g.I.Shelf c.read_rows.new.inputs in
    let d : Seen = seen g.D.Shelf c.args.depot.now in
    let m : Seen = seen g.D.Shelf c.find_segment.new.depot in
    let e : Seen = seen g.D.Shelf c.replace_live.new.depot in
    let columns : Columns = c.in_ok-columns.columns in
    let rows = rows_of columns in
    let came = c.in_ok-columns.ensures in
    replace_done c.args.number c.args.name.now c.args.csv.now c.args.table.now (cursors_of c.args.serving.now) rows i j d m e (cursors_of c.replace_live.new.self) c.in_ok-find_segment.ensures c.requires.small came.rows c.read_rows.ensures.reads.held (came.unchanged (λ e. cc))
    (λ lacks. c.in-Ok.ensures.serves lacks came.made.unicode (λ e. cc)) (counts_copies (Ok c.in-Ok.field-0) m e (file_of c.args.name.now) c.in-Ok.ensures.copies) ((fit_tested c.args.table.now rows).1 c.in-Ok.ensures.fits)
    c.in_ok-reply.reply (c.in_ok-reply.ensures ∙ ap (replaced_text c.args.name.now) (c.len.ensures.count ∙ sym (length-rows columns.count columns.columns c.len.ensures.each)))

pub returns-in-Err-clause-answers : goal.returns-in-Err-clause-answers
returns-in-Err-clause-answers g c =
    let i : Seen = seen g.I.Shelf c.args.inputs.now in
    let j : Seen = seen g.I.Shelf c.read_rows.new.inputs in
    let d : Seen = seen g.D.Shelf c.args.depot.now in
    let m : Seen = seen g.D.Shelf c.find_segment.new.depot in
    let e : Seen = seen g.D.Shelf c.replace_live.new.depot in
    let columns : Columns = c.in_ok-columns.columns in
    let came = c.in_ok-columns.ensures in
    replace_not c.args.number c.args.name.now c.args.csv.now c.args.table.now (cursors_of c.args.serving.now) (rows_of columns) i j d m e (cursors_of c.replace_live.new.self) c.in_ok-find_segment.ensures c.requires.small came.rows c.read_rows.ensures.reads.held (came.unchanged (λ e. cc))
    c.in-Err.fault c.stop_of.result c.in-Err.ensures.only (λ lacks other. c.in-Err.ensures.serves lacks came.made.unicode other) (λ lacks is. c.in-Err.ensures.too_large lacks is)
    (counts_copies (Err c.in-Err.fault) m e (file_of c.args.name.now) c.in-Err.ensures.copies) c.stop_of.ensures

pub returns-in-Ok-clause-over : goal.returns-in-Ok-clause-over
returns-in-Ok-clause-over g c = record { valid = c.requires.over.valid; cursors = c.in-Ok.ensures.cursors; over = c.in-Ok.ensures.over c.args.table.now c.requires.over.over }

pub returns-in-Err-clause-over : goal.returns-in-Err-clause-over
returns-in-Err-clause-over g c = record { valid = c.requires.over.valid; cursors = c.in-Err.ensures.cursors; over = c.in-Err.ensures.over c.args.table.now c.requires.over.over }
