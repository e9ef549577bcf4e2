use Rattle.std.proofs.Common.{Err, Ok, ap, inl, refl}
use Rattle.outside.specs.Seen.{Seen, seen}
use Rattle.serve_lines.specs.Kept.{cursors_of}
use Rattle.serve_lines.proofs.CallLemmas.{open_so, open_writes}
use Rattle.serve_lines.proofs.OverLemmas.{counts_reads}
use Rattle.serve_lines.proofs.cursor.open_for.Goals as goal

pub returns-in_ok-opened-in-Ok-clause-answers : goal.returns-in_ok-opened-in-Ok-clause-answers
returns-in_ok-opened-in-Ok-clause-answers g c = λ number inputs.
    let d : Seen = seen g.D.Shelf c.args.depot.now in
    let e : Seen = seen g.D.Shelf c.open_cursor.new.depot in
    open_so number c.args.cursor.now c.args.table.now (cursors_of c.args.serving.now) (cursors_of c.open_cursor.new.self) inputs d e c.args.query (Ok c.in-Ok.segments) (Ok c.in_ok-opened-in-Ok.field-0) c.in-Ok.ensures.serves
    (counts_reads (Ok c.in-Ok.segments) d e c.in-Ok.ensures.looks.reads (λ e. cc)) (inl (ap (λ t. Ok t) c.in_ok-opened-in-Ok.ensures))

pub returns-in-Err-clause-answers : goal.returns-in-Err-clause-answers
returns-in-Err-clause-answers g c = λ number inputs.
    let d : Seen = seen g.D.Shelf c.args.depot.now in
    let e : Seen = seen g.D.Shelf c.open_cursor.new.depot in
    open_so number c.args.cursor.now c.args.table.now (cursors_of c.args.serving.now) (cursors_of c.open_cursor.new.self) inputs d e c.args.query (Err c.in-Err.fault) (Err c.stop_of.result) c.in-Err.ensures.serves
    (counts_reads (Err c.in-Err.fault) d e c.in-Err.ensures.looks.reads (open_writes c.in-Err.fault (Err c.in-Err.fault) refl c.in-Err.ensures.only)) (c.stop_of.result, refl, c.stop_of.ensures)
