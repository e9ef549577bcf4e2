use Rattle.segment_head.proofs.Loops.{counts_step, counts_stop}
use Rattle.segment_head.proofs.trees.counts_of.Goals as goal

pub loop-column-preserved : goal.loop-column-preserved
loop-column-preserved c =
    counts_step c.args.dictionaries.now c.args.columns.now c.loop-column.column-index c.count.result c.index-dictionaries-column.result c.loop-column.counts.items c.push.new.self.items c.requires c.loop-column-test.true c.index-dictionaries-column.is c.count.ensures.count
    c.in_ok-push.ensures.items c.loop-column.invariant

pub returns : goal.returns
returns c = counts_stop c.args.dictionaries.now c.args.columns.now c.loop-column.column-index c.loop-column.counts.items c.loop-column-test.false c.loop-column.invariant
