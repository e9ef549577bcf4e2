use Rattle.std.proofs.Common.{Err, Ok, false, inl, inr, map, refl, subst, sym, true}
use Rattle.outside.specs.Seen.{Seen, seen}
use Rattle.segment_head.specs.Stored.{live}
use Rattle.query_executor.proofs.ReplyLemmas.{text_real}
use Rattle.command_words.specs.declared.about.About.TheVariants.{Plans, Rows, RowsAndPlans}
use Rattle.command_model.specs.Gives.{AnswersQuery}
use Rattle.commands.proofs.QueryLemmas.{heads_of, one_of, plans_wrong, query_replied, query_stopped}
use Rattle.commands.proofs.ReadLemmas.{heads_read, less_of, stored_of, text_read}
use Rattle.command_model.specs.Consulted.{ReadsAbout, ReadsHeads}
use Rattle.commands.proofs.query.reply_over.Goals as goal

pub stop_of-requires : goal.stop_of-requires
stop_of-requires g c = one_of c.args.names.now c.in-Err.fault (λ at part is. (c.in-Err.ensures.passes.bad at part is).0)

pub returns-in-Ok : goal.returns-in-Ok
returns-in-Ok g c =
    let a : Seen = seen g.D.Shelf c.args.depot.now in
    let b : Seen = seen g.D.Shelf c.reply_to_query.new.shelf in
    let e = c.in-Ok.ensures in
    let has = text_read c.args.table.now c.args.names.now true a.held c.args.sql.now a b c.requires.there e.passes.log e.passes.reads e.passes.unread in
    subst (λ about. AnswersQuery about c.args.sql.now a b (Ok c.in-Ok.text)) (sym c.in-Rows.is)
    (query_replied Rows c.args.table.now c.args.names.now c.args.sql.now a b c.requires.of_table.named c.requires.there e.passes.log (less_of Rows c.args.sql.now a.held a.log b.log has) c.in-Ok.text e.passes.only_reads (λ f. cc) e.reply has)

pub returns-in-Err : goal.returns-in-Err
returns-in-Err g c =
    let a : Seen = seen g.D.Shelf c.args.depot.now in
    let b : Seen = seen g.D.Shelf c.reply_to_query.new.shelf in
    let e = c.in-Err.ensures in
    let has = text_read c.args.table.now c.args.names.now false a.held c.args.sql.now a b c.requires.there e.passes.log e.passes.reads_of_fault e.passes.unread in
    subst (λ about. AnswersQuery about c.args.sql.now a b (Err c.stop_of.result)) (sym c.in-Rows.is)
    (query_stopped Rows c.args.table.now c.args.names.now c.args.sql.now a b c.requires.of_table.named c.requires.there e.passes.log (stored_of (ReadsAbout Rows c.args.sql.now false) a.held a.log b.log has) c.in-Err.fault c.stop_of.result c.stop_of.ensures e.passes.only_reads e.refused
    e.of_text e.passes.bad (λ wrong is real. inr refl))

pub stop_of-requires-in-Err-explain_query : goal.stop_of-requires-in-Err-explain_query
stop_of-requires-in-Err-explain_query g c = one_of c.args.names.now c.in-Err-explain_query.fault (λ at part is. (c.in-Err-explain_query.ensures.looks.bad at part is).0)

pub returns-in-Ok-explain_query : goal.returns-in-Ok-explain_query
returns-in-Ok-explain_query g c =
    let a : Seen = seen g.D.Shelf c.args.depot.now in
    let b : Seen = seen g.D.Shelf c.explain_query.new.shelf in
    let e = c.in-Ok-explain_query.ensures in
    let has = heads_read c.args.table.now c.args.names.now a.held a.log b.log c.requires.there e.looks.log in
    subst (λ about. AnswersQuery about c.args.sql.now a b (Ok c.in-Ok-explain_query.text)) (sym c.in-Plans.is)
    (query_replied Plans c.args.table.now c.args.names.now c.args.sql.now a b c.requires.of_table.named c.requires.there (heads_of c.args.table.now a.held (map live c.args.names.now) a.log b.log e.looks.log)
    (stored_of ReadsHeads a.held a.log b.log has) c.in-Ok-explain_query.text e.looks.only_reads (λ f. cc) e.reply has)

pub returns-in-Err-explain_query : goal.returns-in-Err-explain_query
returns-in-Err-explain_query g c =
    let a : Seen = seen g.D.Shelf c.args.depot.now in
    let b : Seen = seen g.D.Shelf c.explain_query.new.shelf in
    let table = c.args.table.now in
    let e = c.in-Err-explain_query.ensures in
    let has = heads_read c.args.table.now c.args.names.now a.held a.log b.log c.requires.there e.looks.log in
    subst (λ about. AnswersQuery about c.args.sql.now a b (Err c.stop_of-in-Err-explain_query.result)) (sym c.in-Plans.is)
    (query_stopped Plans table c.args.names.now c.args.sql.now a b c.requires.of_table.named c.requires.there (heads_of table a.held (map live c.args.names.now) a.log b.log e.looks.log) (stored_of ReadsHeads a.held a.log b.log has) c.in-Err-explain_query.fault
    c.stop_of-in-Err-explain_query.result c.stop_of-in-Err-explain_query.ensures e.looks.only_reads
    (λ wrong is real. plans_wrong table c.args.names.now c.args.sql.now a.held wrong (e.of_text wrong is real).2)
    (λ wrong is of. (e.of_text wrong is (text_real wrong of)).2) e.looks.bad (λ wrong is real. inl (e.of_text wrong is real).0))

pub stop_of-requires-in-Err-stats_query : goal.stop_of-requires-in-Err-stats_query
stop_of-requires-in-Err-stats_query g c = one_of c.args.names.now c.in-Err-stats_query.fault (λ at part is. (c.in-Err-stats_query.ensures.passes.bad at part is).0)

pub returns-in-Ok-stats_query : goal.returns-in-Ok-stats_query
returns-in-Ok-stats_query g c =
    let a : Seen = seen g.D.Shelf c.args.depot.now in
    let b : Seen = seen g.D.Shelf c.stats_query.new.shelf in
    let e = c.in-Ok-stats_query.ensures in
    let has = text_read c.args.table.now c.args.names.now true a.held c.args.sql.now a b c.requires.there e.passes.log e.passes.reads e.passes.unread in
    subst (λ about. AnswersQuery about c.args.sql.now a b (Ok c.in-Ok-stats_query.text)) (sym c.in-RowsAndPlans.is)
    (query_replied RowsAndPlans c.args.table.now c.args.names.now c.args.sql.now a b c.requires.of_table.named c.requires.there e.passes.log (less_of RowsAndPlans c.args.sql.now a.held a.log b.log has) c.in-Ok-stats_query.text e.passes.only_reads (λ f. cc) e.reply has)

pub returns-in-Err-stats_query : goal.returns-in-Err-stats_query
returns-in-Err-stats_query g c =
    let a : Seen = seen g.D.Shelf c.args.depot.now in
    let b : Seen = seen g.D.Shelf c.stats_query.new.shelf in
    let e = c.in-Err-stats_query.ensures in
    let has = text_read c.args.table.now c.args.names.now false a.held c.args.sql.now a b c.requires.there e.passes.log e.passes.reads_of_fault e.passes.unread in
    subst (λ about. AnswersQuery about c.args.sql.now a b (Err c.stop_of-in-Err-stats_query.result)) (sym c.in-RowsAndPlans.is)
    (query_stopped RowsAndPlans c.args.table.now c.args.names.now c.args.sql.now a b c.requires.of_table.named c.requires.there e.passes.log (stored_of (ReadsAbout RowsAndPlans c.args.sql.now false) a.held a.log b.log has) c.in-Err-stats_query.fault c.stop_of-in-Err-stats_query.result c.stop_of-in-Err-stats_query.ensures e.passes.only_reads e.refused
    e.of_text e.passes.bad (λ wrong is real. inr refl))
