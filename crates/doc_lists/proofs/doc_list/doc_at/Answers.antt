use Rattle.std.proofs.Common.{get_or, arith}
use Rattle.std.proofs.lemmas.List.{get_or_default}
use Rattle.doc_lists.specs.declared.run.Run.{Run}
use Rattle.doc_lists.proofs.Places.{found, left_first, left_next, left_place}
use Rattle.doc_lists.proofs.doc_list.doc_at.Goals as goal

pub loop-left-init : goal.loop-left-init
loop-left-init c = left_first c.args.runs.now c.args.index c.requires.apart c.requires.within

pub returns-then-left-count : goal.returns-then-left-count
returns-then-left-count c =
    let runs = c.args.runs.now in
    let place = c.loop-left.place in
    let left = c.loop-left.left in
    let none : Run = record { first = 0; last = 0 } in
    let run : Run = get_or runs place none in
    let is = get_or_default runs place none run (left_place runs c.args.index place left c.loop-left.invariant) in
    found runs c.args.index place left run c.loop-left.invariant is (omega (arith, c.count-count.ensures, c.if-left-count.true))

pub loop-left-preserved : goal.loop-left-preserved
loop-left-preserved c =
    let runs = c.args.runs.now in
    let place = c.loop-left.place in
    let left = c.loop-left.left in
    let none : Run = record { first = 0; last = 0 } in
    let run : Run = get_or runs place none in
    let is = get_or_default runs place none run (left_place runs c.args.index place left c.loop-left.invariant) in
    left_next runs c.args.index place left run c.count-count.result c.loop-left.invariant is c.count-count.ensures c.if-left-count.false
