use Rattle.std.proofs.Common.{arith, refl}
use Rattle.doc_lists.proofs.Stretches.{order_at}
use Rattle.doc_lists.proofs.WordSteps.{last_at, runs_end, runs_more, runs_none}
use Rattle.doc_lists.proofs.marks.mark_runs.Goals as goal

pub loop-run-init : goal.loop-run-init
loop-run-init c = runs_none c.args.marks.now

pub mark_run-requires-clause-order : goal.mark_run-requires-clause-order
mark_run-requires-clause-order c = order_at 0 c.loop-run.run-index c.args.runs.now _ c.requires.apart c.loop-run-test.true

pub mark_run-requires-clause-room : goal.mark_run-requires-clause-room
mark_run-requires-clause-room c =
    let last = last_at 0 0 c.loop-run.run-index c.args.runs.now (record { first = 0; last = 0 }) c.requires.apart c.loop-run-test.true in
    omega (arith, last, c.requires.room, c.loop-run.invariant.size)

pub loop-run-preserved : goal.loop-run-preserved
loop-run-preserved c = runs_more c.args.runs.now c.loop-run.run-index _ (record { first = 0; last = 0 }) c.args.marks.now c.loop-run.marks _ c.loop-run-test.true refl c.loop-run.invariant c.mark_run.auto.marks c.mark_run.ensures

pub returns : goal.returns
returns c = (runs_end c.args.runs.now c.loop-run.run-index c.args.marks.now c.loop-run.marks (omega (arith, c.loop-run-test.false)) c.loop-run.invariant).those
