use Rattle.std.proofs.Common.{le_refl, refl}
use Rattle.outside.specs.Seen.{seen}
use Rattle.outside.proofs.ReadLemmas.{logs-up, on-err}
use Rattle.star_reader.specs.Taken.{LogsPartUpTo, place_of}
use Rattle.star_reader.proofs.FaultSteps as faults
use Rattle.star_file.specs.declared.spelled_docs.SpelledDocs.{SpelledDocs}
use Rattle.star_reader.proofs.PartSteps as steps
use Rattle.star_reader.proofs.picked.take_part.Goals as goal

pub returns-in-Err-clause-bad : goal.returns-in-Err-clause-bad
returns-in-Err-clause-bad g c is =
    steps.none_refused c.args.tree.now c.args.task.now c.args.asked.now c.args.rows
    (seen g.S.Shelf c.args.shelf.now).held c.args.pick.now c.args.selected.now.table
    (c.in-Err.ensures.bad (faults.bad_too SpelledDocs (Unit {0}) c.in-Err.fault c.of_docs.result
    c.of_docs.ensures is))

pub returns-in_err-take_passing-clause-log_of_fault :
    goal.returns-in_err-take_passing-clause-log_of_fault
returns-in_err-take_passing-clause-log_of_fault g c =
    let tree = c.args.tree.now in
    let p = c.args.pick.now in
    let old = (seen g.S.Shelf c.args.shelf.now).log in
    let new = (seen g.S.Shelf c.read_docs.new.shelf).log in
    on-err c.from_residual.result (LogsPartUpTo tree p old new)
    (logs-up tree.documents.now.file (place_of tree p.start) (place_of tree p.end)
    (place_of tree p.end) old new new (le_refl _) c.in-Ok.ensures.log refl)

pub returns-then-not-branch-clause-bad : goal.returns-then-not-branch-clause-bad
returns-then-not-branch-clause-bad g c is =
    steps.told_refused c.args.tree.now c.args.task.now c.args.asked.now c.args.rows
    (seen g.S.Shelf c.args.shelf.now).held c.args.pick.now c.args.selected.now.table
    c.in-Ok.table.docs c.in-Ok.ensures.docs
    (rw c.if-not-branch.true at c.in_ok-take_passing.ensures.selected)

pub returns-then-not-branch-clause-log_of_fault : goal.returns-then-not-branch-clause-log_of_fault
returns-then-not-branch-clause-log_of_fault g c =
    let tree = c.args.tree.now in
    let p = c.args.pick.now in
    let old = (seen g.S.Shelf c.args.shelf.now).log in
    let new = (seen g.S.Shelf c.read_docs.new.shelf).log in
    logs-up tree.documents.now.file (place_of tree p.start) (place_of tree p.end)
    (place_of tree p.end) old new new (le_refl _) c.in-Ok.ensures.log refl
