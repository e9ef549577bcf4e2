use Rattle.star_file.proofs.Written as steps
use Rattle.star_file.proofs.checking.read_nodes.Goals as goal

pub loop-i-preserved : goal.loop-i-preserved
loop-i-preserved c =
    steps.nodes_step c.args.count c.loop-i.i c.args.bytes.now c.read_node.result
    c.loop-i.nodes.items c.push.new.self.items _ c.loop-i-test.true c.read_node.ensures
    c.loop-i.invariant c.in_ok-push.ensures.items
