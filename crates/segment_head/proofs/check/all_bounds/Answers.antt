use Rattle.segment_head.proofs.Loops.{bounds_step, bounds_stop}
use Rattle.segment_head.proofs.check.all_bounds.Goals as goal

pub loop-dictionary-preserved : goal.loop-dictionary-preserved
loop-dictionary-preserved c =
    bounds_step c.args.dictionaries.now c.loop-dictionary.dictionary-index c.dictionary-item.result c.loop-dictionary.bounds.items c.keep_ends.new.bounds.items _ c.loop-dictionary-test.true c.dictionary-item.is c.in_ok-keep_ends.ensures c.loop-dictionary.invariant

pub returns : goal.returns
returns c = bounds_stop c.args.dictionaries.now c.loop-dictionary.dictionary-index c.loop-dictionary.bounds.items _ c.loop-dictionary-test.false c.loop-dictionary.invariant
