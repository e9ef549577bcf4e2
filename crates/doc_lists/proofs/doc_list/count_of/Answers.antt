use Rattle.std.proofs.Common.{arith}
use Rattle.doc_lists.proofs.Stretches.{count_more, count_room, order_at}
use Rattle.doc_lists.proofs.doc_list.count_of.Goals as goal

pub count-count-requires : goal.count-count-requires
count-count-requires c = order_at 0 c.loop-run.run-index c.args.runs.now (record { first = 0; last = 0 }) c.requires c.loop-run-test.true

pub overflow_add-count : goal.overflow_add-count
overflow_add-count c =
    let room = count_room c.args.runs.now c.loop-run.run-index (record { first = 0; last = 0 }) c.loop-run.count c.count-count.result c.requires c.loop-run-test.true c.loop-run.invariant c.count-count.ensures in
    omega (arith, room)

pub loop-run-preserved : goal.loop-run-preserved
loop-run-preserved c = count_more c.args.runs.now c.loop-run.run-index (record { first = 0; last = 0 }) c.loop-run.count c.count-count.result c.loop-run-test.true c.loop-run.invariant c.count-count.ensures
