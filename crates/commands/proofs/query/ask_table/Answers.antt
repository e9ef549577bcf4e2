use Rattle.std.proofs.Common.{IfSome, refl, subst, sym}
use Rattle.outside.specs.Seen.{Seen, seen}
use Rattle.table_store.specs.Segments.{AreFirstNames}
use Rattle.command_model.specs.Stored.{HasTableFile}
use Rattle.commands.proofs.QueryLemmas.{look_stopped, query_after, query_handed}
use Rattle.command_model.proofs.StoredLemmas.{same_found}
use Rattle.commands.proofs.query.ask_table.Goals as goal

pub returns-in_err-names : goal.returns-in_err-names
returns-in_err-names g c =
    let a : Seen = seen g.D.Shelf c.args.depot.now in
    let b : Seen = seen g.D.Shelf c.stored_names.new.depot in
    let why = c.in_err-names.field-0.0 in
    query_handed c.args.about c.args.sql.now a b c.from_residual.result why c.from_residual.ensures.1
    (look_stopped AreFirstNames c.docs_bound_law.ensures.bound c.args.about c.args.sql.now a b why c.in_err-names.ensures.looks)

pub reply_over-requires-clause-there : goal.reply_over-requires-clause-there
reply_over-requires-clause-there g c =
    let a : Seen = seen g.D.Shelf c.args.depot.now in
    let b : Seen = seen g.D.Shelf c.stored_names.new.depot in
    let looks = c.in_ok-names.ensures.looks in
    subst (λ names. IfSome b.held (λ files. HasTableFile files c.args.table.now × AreFirstNames files names)) (sym c.as_slice.ensures)
    (same_found a.held a.held b.held c.args.table.now c.in_ok-names.names refl looks.reads.held c.requires.there looks.found)

pub returns : goal.returns
returns g c =
    let a : Seen = seen g.D.Shelf c.args.depot.now in
    let b : Seen = seen g.D.Shelf c.stored_names.new.depot in
    let d : Seen = seen g.D.Shelf c.reply_over.new.depot in
    let looks = c.in_ok-names.ensures.looks in
    query_after c.args.about c.args.sql.now a b d looks.reads looks.log c.reply_over.result c.reply_over.ensures
