use Rattle.std.proofs.Common.{ℕ, ◌<◌, subst, sym, arith}
use Rattle.outside.specs.Seen.{seen}
use Rattle.star_reader.specs.declared.fault.AnswerFault.{AnswerFault}
use Rattle.star_reader.specs.declared.fault.AnswerFault.TheVariants.{ReadFault}
use Rattle.star_reader.proofs.FaultSteps as faults
use Rattle.star_reader.proofs.PartSteps as steps
use Rattle.star_reader.proofs.PartSteps.{PartStep}
use Rattle.star_reader.proofs.picked.take_pick.Goals as goal

pub parts-init : goal.parts-init
parts-init g c = steps.part_start c.args.tree.now c.args.task.now c.args.asked.now c.args.rows
    c.args.pick.now (seen g.S.Shelf c.args.shelf.now) c.args.selected.now.table c.requires.order
    c.requires.selected

pub returns-in-Err-clause-bad : goal.returns-in-Err-clause-bad
returns-in-Err-clause-bad g c is =
    let tree = c.args.tree.now in
    let p = c.args.pick.now in
    let q = c.part_from-part.result in
    let said = c.part_from-part.ensures in
    let first = seen g.S.Shelf c.args.shelf.now in
    let now = seen g.S.Shelf c.parts.shelf in
    let old = c.args.selected.now.table in
    let table = c.parts.selected.table in
    let more : q.start < q.end = omega (arith, said.start, said.more) in
    steps.part_refused tree c.args.task.now c.args.asked.now c.args.rows p q first now old table
    (subst (λ (n : ℕ). PartStep tree c.args.task.now c.args.asked.now c.args.rows p n first now old
    table) (sym said.start) c.parts.invariant) more said.within said.level (c.in-Err.ensures.bad is)

pub returns-in-Err-clause-log_of_fault : goal.returns-in-Err-clause-log_of_fault
returns-in-Err-clause-log_of_fault g c =
    let tree = c.args.tree.now in
    let p = c.args.pick.now in
    let q = c.part_from-part.result in
    let said = c.part_from-part.ensures in
    let first = seen g.S.Shelf c.args.shelf.now in
    let now = seen g.S.Shelf c.parts.shelf in
    let old = c.args.selected.now.table in
    let table = c.parts.selected.table in
    let more : q.start < q.end = omega (arith, said.start, said.more) in
    steps.part_failed tree c.args.task.now c.args.asked.now c.args.rows p q first now old table
    (subst (λ (n : ℕ). PartStep tree c.args.task.now c.args.asked.now c.args.rows p n first now old
    table) (sym said.start) c.parts.invariant) more said.within said.level
    (seen g.S.Shelf c.take_part.new.shelf).log c.in-Err.ensures.log_of_fault

pub parts-preserved : goal.parts-preserved
parts-preserved g c =
    let tree = c.args.tree.now in
    let p = c.args.pick.now in
    let q = c.part_from-part.result in
    let said = c.part_from-part.ensures in
    let first = seen g.S.Shelf c.args.shelf.now in
    let now = seen g.S.Shelf c.parts.shelf in
    let next = seen g.S.Shelf c.take_part.new.shelf in
    let old = c.args.selected.now.table in
    let table = c.parts.selected.table in
    let more : q.start < q.end = omega (arith, said.start, said.more) in
    steps.part_next tree c.args.task.now c.args.asked.now c.args.rows p q first now old table
    (subst (λ (n : ℕ). PartStep tree c.args.task.now c.args.asked.now c.args.rows p n first now old
    table) (sym said.start) c.parts.invariant) more said.within said.level next
    c.take_part.new.selected.table
    (faults.reads_well (Unit {0}) AnswerFault c.in_default.field-0 ReadFault now next
    c.in_default.ensures.only_reads) c.in_default.ensures.log c.in_default.ensures.taken
