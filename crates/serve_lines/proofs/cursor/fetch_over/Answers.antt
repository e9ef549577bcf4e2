use Rattle.std.proofs.Common.{Err, List, Ok, ap, inl, refl, subst, ℕ}
use Rattle.outside.specs.Seen.{Seen, seen}
use Rattle.cursor_serve.specs.Machine.{fetched}
use Rattle.serving.specs.Calls.{Serves}
use Rattle.serving.specs.declared.fault.ServeFault.{ServeFault}
use Rattle.serving.specs.declared.fault.ServeFault.TheVariants as serve
use Rattle.serve_lines.specs.Kept.{cursors_of}
use Rattle.serve_lines.specs.Step.{by_machine, stepped_text}
use Rattle.serve_lines.proofs.CallLemmas.{fetch_so, step_writes}
use Rattle.serve_lines.proofs.OverLemmas.{counts_reads, gave_up, reads_quiet}
use Rattle.serve_lines.proofs.cursor.fetch_over.Goals as goal

pub returns-in-Ok-clause-answers : goal.returns-in-Ok-clause-answers
returns-in-Ok-clause-answers g c = λ number inputs.
    let d : Seen = seen g.D.Shelf c.args.depot.now in
    let e : Seen = seen g.D.Shelf c.fetch.new.shelf in
    fetch_so number c.args.cursor.now c.args.table.now (cursors_of c.args.serving.now) (cursors_of c.fetch.new.self) inputs d e (Ok c.in-Ok.text) (Ok c.in-Ok.text) c.in-Ok.ensures.serves
    (counts_reads (Ok c.in-Ok.text) d e c.in-Ok.ensures.only_reads (λ e. cc)) (inl refl)

pub returns-in-Err-NotASegment-clause-answers : goal.returns-in-Err-NotASegment-clause-answers
returns-in-Err-NotASegment-clause-answers g c = λ number inputs.
    let d : Seen = seen g.D.Shelf c.args.depot.now in
    let m : Seen = seen g.D.Shelf c.fetch.new.shelf in
    let e : Seen = seen g.D.Shelf c.give_up.new.depot in
    let part = c.in-Err-NotASegment.part in
    gave_up number (λ given texts n. by_machine texts c.args.cursor.now (λ text. text) (fetched c.args.cursor.now n)) c.args.table.now (cursors_of c.args.serving.now) (cursors_of c.give_up.new.serving) inputs d m e
    (fetched c.args.cursor.now) (cursors_of c.fetch.new.self) part c.give_up.result
    (subst (λ f. Serves (fetched c.args.cursor.now) c.args.table.now (cursors_of c.args.serving.now) (cursors_of c.fetch.new.self) d.held m.held (Err f)) c.in-Err-NotASegment.field-0-is c.in-Err-NotASegment.ensures.serves)
    (reads_quiet (List ℕ) c.in-Err-NotASegment.field-0 part d m c.in-Err-NotASegment.field-0-is c.in-Err-NotASegment.ensures.only_reads) c.in-Err-NotASegment.ensures.only_reads.writes c.give_up.ensures.given_up

pub returns-in-Err : goal.returns-in-Err
returns-in-Err g c =
    let d : Seen = seen g.D.Shelf c.args.depot.now in
    let e : Seen = seen g.D.Shelf c.fetch.new.shelf in
    record {
      answers = λ number inputs. fetch_so number c.args.cursor.now c.args.table.now (cursors_of c.args.serving.now) (cursors_of c.fetch.new.self) inputs d e (Err c.in-Err.fault) (Err c.stop_of.result) c.in-Err.ensures.serves
          (counts_reads (Err c.in-Err.fault) d e c.in-Err.ensures.only_reads (step_writes c.in-Err.fault (Err c.in-Err.fault) refl c.in-Err.ensures.only)) (c.stop_of.result, refl, c.stop_of.ensures);
      over = record { valid = c.requires.valid; cursors = c.in-Err.ensures.cursors; over = c.in-Err.ensures.over };
    }
