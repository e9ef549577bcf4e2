use Rattle.outside.specs.Seen.{Seen, seen}
use Rattle.sql_reply.specs.declared.fault.SqlFault.TheVariants.{NoMemory}
use Rattle.query_executor.specs.declared.fault.ExecutorFault.TheVariants.{Sql}
use Rattle.query_executor.proofs.EndLemmas.{gives_fault}
use Rattle.query_executor.proofs.PassLemmas.{pass_unread}
use Rattle.cursors.proofs.AddedLemmas.{added_so, ok_so, overfull_so}
use Rattle.cursors.proofs.adding.add_all.Goals as goal

pub returns-in_err-spare-clause-passes : goal.returns-in_err-spare-clause-passes
returns-in_err-spare-clause-passes g c =
    let a : Seen = seen g.S.Shelf c.args.shelf.now in
    let r = c.from_residual.result in
    pass_unread c.args.query.now c.args.table.now c.args.stored.now c.docs_bound_law.ensures.bound c.requires.begins.over.of_table.valid _ r a (gives_fault _ r (Sql NoMemory) c.from_residual.ensures.1)

pub returns-clause-added : goal.returns-clause-added
returns-clause-added g c =
    ok_so c.pass_over-done.result _ _ (λ made. added_so c.args.query.now c.args.table.now (g.S.Shelf.held c.args.shelf.now) c.args.stored.now _ c.pass_over-done.new.pass c.args.groups.now c.args.pool.now c.replace.ensures.value c.replace-2.ensures.value made) c.pass_over-done.ensures.made

pub returns-clause-refused : goal.returns-clause-refused
returns-clause-refused g c = λ fault is real.
    overfull_so c.args.query.now c.args.table.now (g.S.Shelf.held c.args.shelf.now) c.args.stored.now _ c.args.groups.now _ c.args.pool.now c.replace.ensures.value c.replace-2.ensures.value (c.pass_over-done.ensures.refused fault is real).1
