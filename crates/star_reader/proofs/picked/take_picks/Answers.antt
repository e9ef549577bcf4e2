use Rattle.std.proofs.Common.{Err, IsErrOf, length}
use Rattle.outside.specs.Seen.{seen}
use Rattle.outside.proofs.ReadLemmas.{on-err}
use Rattle.outside.proofs.SeenLemmas.{reads_after, reads_so}
use Rattle.star_table.specs.declared.star_table.StarTable.{StarTable}
use Rattle.star_walk.specs.declared.pick.Pick.{Pick}
use Rattle.star_reader.specs.Answers.{LogsSome}
use Rattle.star_reader.specs.declared.fault.AnswerFault.{AnswerFault}
use Rattle.star_reader.specs.declared.fault.AnswerFault.TheVariants.{BadDocs, ReadFault}
use Rattle.star_reader.specs.declared.fault.AnswerFault.TheVariants.{TooManyGroups}
use Rattle.star_reader.proofs.FaultSteps as faults
use Rattle.star_reader.proofs.ReadSteps as steps
use Rattle.star_reader.proofs.picked.take_picks.Goals as goal

abbrev none : Pick
none = record { start = 0; end = 0; level = 0 }

pub returns-in_err-selected-clause-log_of_fault : goal.returns-in_err-selected-clause-log_of_fault
returns-in_err-selected-clause-log_of_fault g c =
    let tree = c.args.tree.now in
    let log = g.S.Shelf.log c.args.shelf.now in
    on-err c.from_residual.result (LogsSome tree c.args.picks.now log log)
    (steps.nothing_read tree c.requires.within.0 (length c.args.task.now.matched) c.args.picks.now log
    c.requires.within.1)

pub loop-pick-init : goal.loop-pick-init
loop-pick-init g c =
    steps.picked_start c.args.tree.now c.args.task.now c.args.asked.now c.args.rows c.args.picks.now
    (seen g.S.Shelf c.args.shelf.now) c.in_ok-selected.selected.table c.requires.within
    c.in_ok-selected.ensures.dims c.in_ok-selected.ensures.kinds c.in_ok-selected.ensures.docs

pub take_pick-requires : goal.take_pick-requires
take_pick-requires g c =
    let first = seen g.S.Shelf c.args.shelf.now in
    let now = seen g.S.Shelf c.loop-pick.shelf in
    let step = c.loop-pick.invariant in
    record {
      tree = c.requires.tree;
      asked = c.requires.asked;
      order = steps.pick_order c.args.tree.now c.args.task.now c.args.asked.now c.args.rows
          c.args.picks.now c.loop-pick.pick-index none first now c.loop-pick.selected.table
          c.loop-pick-test.true step;
      level = steps.pick_level c.args.tree.now c.args.task.now c.args.asked.now c.args.rows
          c.args.picks.now c.loop-pick.pick-index none first now c.loop-pick.selected.table
          c.loop-pick-test.true step;
      selected = step.picked.selected;
    }

pub returns-in-Err-clause-bad : goal.returns-in-Err-clause-bad
returns-in-Err-clause-bad g c is =
    let first = seen g.S.Shelf c.args.shelf.now in
    let now = seen g.S.Shelf c.loop-pick.shelf in
    steps.part_bad c.args.tree.now c.args.task.now c.args.asked.now c.args.rows c.args.picks.now
    c.loop-pick.pick-index none first now c.loop-pick.selected.table c.loop-pick-test.true
    c.loop-pick.invariant (c.in-Err.ensures.bad
    (faults.same_fault StarTable (Unit {0}) AnswerFault c.in-Err.fault BadDocs is))

pub returns-in-Err-clause-never : goal.returns-in-Err-clause-never
returns-in-Err-clause-never g c is = c.in-Err.ensures.never
    (faults.same_fault StarTable (Unit {0}) AnswerFault c.in-Err.fault TooManyGroups is)

pub returns-in-Err-clause-only_reads : goal.returns-in-Err-clause-only_reads
returns-in-Err-clause-only_reads g c =
    let first = seen g.S.Shelf c.args.shelf.now in
    let now = seen g.S.Shelf c.loop-pick.shelf in
    let next = seen g.S.Shelf c.take_pick.new.shelf in
    reads_after (IsErrOf {T = StarTable} {E = AnswerFault} (Err c.in-Err.fault) ReadFault) first now
    next c.loop-pick.invariant.reads
    (reads_so (IsErrOf {T = Unit {0}} {E = AnswerFault} (Err c.in-Err.fault) ReadFault)
    (IsErrOf {T = StarTable} {E = AnswerFault} (Err c.in-Err.fault) ReadFault) now next
    (faults.same_fault StarTable (Unit {0}) AnswerFault c.in-Err.fault ReadFault)
    (faults.same_fault (Unit {0}) StarTable AnswerFault c.in-Err.fault ReadFault)
    c.in-Err.ensures.only_reads)

pub returns-in-Err-clause-log_of_fault : goal.returns-in-Err-clause-log_of_fault
returns-in-Err-clause-log_of_fault g c =
    let first = seen g.S.Shelf c.args.shelf.now in
    let now = seen g.S.Shelf c.loop-pick.shelf in
    let next = seen g.S.Shelf c.take_pick.new.shelf in
    steps.read_partly c.args.tree.now c.args.task.now c.args.asked.now c.args.rows c.args.picks.now
    c.loop-pick.pick-index none first now c.loop-pick.selected.table c.loop-pick-test.true
    c.loop-pick.invariant next.log c.in-Err.ensures.log_of_fault

pub loop-pick-preserved : goal.loop-pick-preserved
loop-pick-preserved g c =
    let first = seen g.S.Shelf c.args.shelf.now in
    let now = seen g.S.Shelf c.loop-pick.shelf in
    let next = seen g.S.Shelf c.take_pick.new.shelf in
    let taken = c.in_default.ensures.taken in
    steps.picked_next c.args.tree.now c.args.task.now c.args.asked.now c.args.rows c.args.picks.now
    c.loop-pick.pick-index none first now c.loop-pick.selected.table c.loop-pick-test.true
    c.loop-pick.invariant next c.take_pick.new.selected.table taken.docs
    (faults.reads_well (Unit {0}) AnswerFault c.in_default.field-0 ReadFault now next
    c.in_default.ensures.only_reads) c.in_default.ensures.log taken.told taken.number taken.selected
    taken.docs_are
