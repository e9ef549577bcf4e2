use Rattle.std.proofs.Common.{Err, Ok, ap, inl, refl}
use Rattle.outside.specs.Seen.{Seen, seen}
use Rattle.segment_file.specs.Names.{file_of}
use Rattle.serve_lines.specs.Kept.{cursors_of}
use Rattle.serve_lines.proofs.CallLemmas.{drop_so}
use Rattle.serve_lines.proofs.OverLemmas.{counts_copies}
use Rattle.serve_lines.proofs.rows.drop_over.Goals as goal

pub returns-in-Ok-clause-answers : goal.returns-in-Ok-clause-answers
returns-in-Ok-clause-answers g c = λ inputs.
    let d : Seen = seen g.D.Shelf c.args.depot.now in
    let e : Seen = seen g.D.Shelf c.drop_live.new.depot in
    drop_so c.args.number c.args.name.now c.args.table.now (cursors_of c.args.serving.now) (cursors_of c.drop_live.new.self) inputs d e c.requires.small (Ok c.in-Ok.field-0) (Ok c.in_ok-reply.reply) (λ lacks. c.in-Ok.ensures.serves lacks c.args.table.now)
    (counts_copies (Ok c.in-Ok.field-0) d e (file_of c.args.name.now) c.in-Ok.ensures.copies) (inl (ap (λ t. Ok t) c.in_ok-reply.ensures))

pub returns-in-Err-clause-answers : goal.returns-in-Err-clause-answers
returns-in-Err-clause-answers g c = λ inputs.
    let d : Seen = seen g.D.Shelf c.args.depot.now in
    let e : Seen = seen g.D.Shelf c.drop_live.new.depot in
    drop_so c.args.number c.args.name.now c.args.table.now (cursors_of c.args.serving.now) (cursors_of c.drop_live.new.self) inputs d e c.requires.small (Err c.in-Err.fault) (Err c.stop_of.result) (λ lacks. c.in-Err.ensures.serves lacks c.args.table.now)
    (counts_copies (Err c.in-Err.fault) d e (file_of c.args.name.now) c.in-Err.ensures.copies) (c.stop_of.result, refl, c.stop_of.ensures)

pub returns-in-Ok-clause-over : goal.returns-in-Ok-clause-over
returns-in-Ok-clause-over g c = record { valid = c.requires.over.valid; cursors = c.in-Ok.ensures.cursors; over = c.in-Ok.ensures.over c.args.table.now c.requires.over.over }

pub returns-in-Err-clause-over : goal.returns-in-Err-clause-over
returns-in-Err-clause-over g c = record { valid = c.requires.over.valid; cursors = c.in-Err.ensures.cursors; over = c.in-Err.ensures.over c.args.table.now c.requires.over.over }
