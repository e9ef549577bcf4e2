use Rattle.segment_head.proofs.Loops.{live_step, live_stop}
use Rattle.segment_head.proofs.stored.live_segments.Goals as goal

pub loop-name-preserved : goal.loop-name-preserved
loop-name-preserved c =
    live_step c.args.names.now c.loop-name.name-index c.name-item.result c.loop-name.stored.items c.push_live.new.stored.items c.loop-name-test.true c.name-item.is c.in_ok-push_live.ensures c.loop-name.invariant

pub returns : goal.returns
returns c = live_stop c.args.names.now c.loop-name.name-index c.loop-name.stored.items c.loop-name-test.false c.loop-name.invariant
