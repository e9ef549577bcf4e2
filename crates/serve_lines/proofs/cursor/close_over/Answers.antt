use Rattle.std.proofs.Common.{Err, Ok, ap, inl, refl}
use Rattle.outside.specs.Seen.{Seen, seen}
use Rattle.serve_lines.specs.Kept.{cursors_of}
use Rattle.serve_lines.proofs.CallLemmas.{close_reads, close_so}
use Rattle.serve_lines.proofs.OverLemmas.{counts_removes}
use Rattle.serve_lines.proofs.cursor.close_over.Goals as goal

pub returns-in-Ok-clause-answers : goal.returns-in-Ok-clause-answers
returns-in-Ok-clause-answers g c = λ number inputs.
    let d : Seen = seen g.D.Shelf c.args.depot.now in
    let e : Seen = seen g.D.Shelf c.close.new.depot in
    close_so number c.args.cursor.now c.args.table.now (cursors_of c.args.serving.now) (cursors_of c.close.new.self) inputs d e (Ok c.in-Ok.field-0) (Ok c.in_ok-reply.reply) (c.in-Ok.ensures.serves c.args.table.now)
    (counts_removes (Ok c.in-Ok.field-0) d e c.in-Ok.ensures.only_removes (λ e. cc)) (inl (ap (λ t. Ok t) c.in_ok-reply.ensures))

pub returns-in-Err-clause-answers : goal.returns-in-Err-clause-answers
returns-in-Err-clause-answers g c = λ number inputs.
    let d : Seen = seen g.D.Shelf c.args.depot.now in
    let e : Seen = seen g.D.Shelf c.close.new.depot in
    close_so number c.args.cursor.now c.args.table.now (cursors_of c.args.serving.now) (cursors_of c.close.new.self) inputs d e (Err c.in-Err.fault) (Err c.stop_of.result) (c.in-Err.ensures.serves c.args.table.now)
    (counts_removes (Err c.in-Err.fault) d e c.in-Err.ensures.only_removes (close_reads c.in-Err.fault (Err c.in-Err.fault) refl c.in-Err.ensures.only)) (c.stop_of.result, refl, c.stop_of.ensures)

pub returns-in-Ok-clause-over : goal.returns-in-Ok-clause-over
returns-in-Ok-clause-over g c = record { valid = c.requires.valid; cursors = c.in-Ok.ensures.cursors; over = c.in-Ok.ensures.over c.args.table.now c.requires.over }

pub returns-in-Err-clause-over : goal.returns-in-Err-clause-over
returns-in-Err-clause-over g c = record { valid = c.requires.valid; cursors = c.in-Err.ensures.cursors; over = c.in-Err.ensures.over c.args.table.now c.requires.over }
