use Rattle.std.proofs.Common.{refl}
use Rattle.cursors.proofs.FileLemmas.{live_file, map_step, map_stop}
use Rattle.cursors.proofs.opening.live_files.Goals as goal

pub loop-name-preserved : goal.loop-name-preserved
loop-name-preserved c =
    map_step live_file c.args.names.now c.loop-name.name-index c.name-item.result (live_file c.name-item.result) c.loop-name.files.items c.push_live.new.files.items c.loop-name-test.true c.name-item.is refl c.in_ok-push_live.ensures c.loop-name.invariant

pub returns : goal.returns
returns c = map_stop live_file c.args.names.now c.loop-name.name-index c.loop-name.files.items c.loop-name-test.false c.loop-name.invariant
