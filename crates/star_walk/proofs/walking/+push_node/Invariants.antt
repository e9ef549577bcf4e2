use Rattle.std.proofs.Common.{◌≡◌, ◌+◌, ◌-◌, ◌*◌, ◌++◌, length}
use Rattle.state_columns.specs.Region.{range}
use Rattle.star_tree.specs.Flat.{node_at}
use Rattle.star_walk.specs.Walking.{task_of, taken, node_picks, has_star_among, child_nodes_of}
use Rattle.star_walk.proofs.walking.+push_node.Given as goal

abbrev pub decreases-push_node : goal.decreases-push_node
decreases-push_node l = 2 * (length l.walk.task.now.matched - l.level)

abbrev pub decreases-push_children : goal.decreases-push_children
decreases-push_children l = 2 * (length l.walk.task.now.matched - l.level) - 1

abbrev pub invariant-push_children-loop-child : goal.invariant-push_children-loop-child
invariant-push_children-loop-child l =
    let t = task_of l.walk.task.now.matched l.walk.task.now.grouped in
    let k = length l.walk.task.now.matched in
    l.picks ≡ l.fn.picks ++ taken (node_picks t k l.walk.nodes.now (k - (l.level + 1)) (l.level + 1)) t
    (has_star_among (child_nodes_of l.walk.nodes.now (node_at l.walk.nodes.now l.at))) l.level (range l.first l.child l.walk.nodes.now)
