use Rattle.std.proofs.Common.{◌&&◌, not, subst, sym}
use Rattle.doc_lists.specs.Docs.{has_doc}
use Rattle.doc_lists.specs.Sets.{AreThose}
use Rattle.doc_lists.proofs.MarkedDocs.{parts_count}
use Rattle.doc_lists.proofs.doc_set.parted.Goals as goal

pub returns-clause-count : goal.returns-clause-count
returns-clause-count c =
    let docs = c.args.docs.now in
    let others = c.args.others.now in
    parts_count docs c.in_ok-both-2.both c.in_ok-alone-2.alone (has_doc others) c.ascends.ensures
    (subst (AreThose (λ doc. has_doc docs doc && has_doc others doc)) (sym c.in_ok-both-2.ensures) c.in_ok-both.ensures)
    (subst (AreThose (λ doc. has_doc docs doc && not (has_doc others doc))) (sym c.in_ok-alone-2.ensures) c.in_ok-alone.ensures)
