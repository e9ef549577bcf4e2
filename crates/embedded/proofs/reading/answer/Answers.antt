use Rattle.std.proofs.Common.{Err, IfSome, sym, subst}
use Rattle.outside.specs.Seen.{Seen, seen}
use Rattle.table_store.specs.Segments.{AreFirstNames}
use Rattle.embedded.specs.Calls.{Answers}
use Rattle.embedded.specs.Stores.{over}
use Rattle.embedded.proofs.CallLemmas.{answered, fine, not_image, unanswered}
use Rattle.embedded.proofs.reading.answer.Goals as goal

pub returns-in-Ok-reply_to_query : goal.returns-in-Ok-reply_to_query
returns-in-Ok-reply_to_query g c =
    let a : Seen = seen g.D.Shelf c.args.depot.now in
    let b : Seen = seen g.D.Shelf c.segment_names.new.depot in
    let d : Seen = seen g.D.Shelf c.reply_to_query.new.shelf in
    let are = subst (λ names. IfSome a.held (λ files. AreFirstNames files names)) (sym c.as_slice.ensures) c.in-Ok.ensures.names in
    let e = c.in-Ok-reply_to_query.ensures in
    answered c.args.table.now c.as_slice.result.now c.args.sql.now a b d (fine a b (λ f. cc) c.in-Ok.ensures.looks) are c.in-Ok-reply_to_query.text (λ r. cc) e.reply e.passes.only_reads

pub returns : goal.returns
returns g c =
    let a : Seen = seen g.D.Shelf c.args.depot.now in
    let b : Seen = seen g.D.Shelf c.segment_names.new.depot in
    let d : Seen = seen g.D.Shelf c.reply_to_query.new.shelf in
    let are = subst (λ names. IfSome a.held (λ files. AreFirstNames files names)) (sym c.as_slice.ensures) c.in-Ok.ensures.names in
    let e = c.in-Err-reply_to_query.ensures in
    subst (λ why. Answers c.args.sql.now (over c.args.table.now a) (over c.args.table.now d) (Err why)) (sym c.from.ensures)
    (unanswered c.args.table.now c.as_slice.result.now c.args.sql.now a b d (fine a b (λ f. cc) c.in-Ok.ensures.looks) are c.in-Err-reply_to_query.fault e.refused (λ at part is. not_image c.args.table.now c.as_slice.result.now c.args.sql.now b.held at part (e.passes.bad at part is)) e.passes.only_reads)
