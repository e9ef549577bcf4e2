use Rattle.std.proofs.Common.{◌≡◌, ◌<◌, ◌≤◌, ◌+◌, ◌-◌, ◌++◌, OnOk, length, false, sym, ap, subst}
use Rattle.std.proofs.Common.{◌∙◌, arith, append_assoc}
use Rattle.std.proofs.lemmas.Bool.{ne_eqb}
use Rattle.state_columns.specs.Region.{range}
use Rattle.star_tree.specs.Flat.{node_at}
use Rattle.star_tree.specs.Picks.{is_selected}
use Rattle.star_walk.specs.Walking.{task_of, has_star_among, child_nodes_of, taken, node_picks}
use Rattle.star_walk.proofs.WalkSteps.{picks_split, child_passed, child_taken}
use Rattle.star_walk.proofs.walking.+push_node.Goals as goal

pub push_children-loop-child-preserved-then-not-takes : goal.push_children-loop-child-preserved-then-not-takes
push_children-loop-child-preserved-then-not-takes t c =
    let ns = c.args.walk.nodes.now in
    let n = node_at ns c.args.at in
    let task = task_of c.args.walk.task.now.matched c.args.walk.task.now.grouped in
    let k = length c.args.walk.task.now.matched in
    let child = c.loop-child.child in
    let from = c.children_of-first.result.0 in
    let first : from ≡ n.first = c.children_of-first.ensures.first in
    let end : c.children_of-first.result.1 ≡ n.first + n.children =
    c.children_of-first.ensures.end ∙ ap (λ m. m + n.children) first in
    let among : has_star_among (child_nodes_of ns n) ≡ c.has_star-starred.result =
    sym (c.has_star-starred.ensures ∙ (λ i. has_star_among (range (first i) (end i) ns))) in
    let passed : is_selected task (has_star_among (child_nodes_of ns n)) c.args.level (node_at ns child).id
    ≡ false =
    ap (λ b. is_selected task b c.args.level (node_at ns child).id) among
    ∙ sym c.takes.ensures ∙ c.if-not-takes.true in
    let le : from ≤ child = omega arith in
    let lt : child < length ns = omega arith in
    c.loop-child.invariant
    ∙ ap (λ ps. c.args.picks.now ++ ps)
    (sym (child_passed (node_picks task k ns (k - (c.args.level + 1)) (c.args.level + 1)) task
    (has_star_among (child_nodes_of ns n)) c.args.level from child ns le lt passed))

pub push_children-loop-child-preserved : goal.push_children-loop-child-preserved
push_children-loop-child-preserved t c =
    let ns = c.args.walk.nodes.now in
    let n = node_at ns c.args.at in
    let task = task_of c.args.walk.task.now.matched c.args.walk.task.now.grouped in
    let k = length c.args.walk.task.now.matched in
    let child = c.loop-child.child in
    let from = c.children_of-first.result.0 in
    let first : from ≡ n.first = c.children_of-first.ensures.first in
    let end : c.children_of-first.result.1 ≡ n.first + n.children =
    c.children_of-first.ensures.end ∙ ap (λ m. m + n.children) first in
    let among : has_star_among (child_nodes_of ns n) ≡ c.has_star-starred.result =
    sym (c.has_star-starred.ensures ∙ (λ i. has_star_among (range (first i) (end i) ns))) in
    let took =
    ap (λ b. is_selected task b c.args.level (node_at ns child).id) among
    ∙ sym c.takes.ensures ∙ c.if-not-takes.false in
    let le : from ≤ child = omega arith in
    let lt : child < length ns = omega arith in
    let below = node_picks task k ns (k - (c.args.level + 1)) (c.args.level + 1) in
    let star = has_star_among (child_nodes_of ns n) in
    c.in_ok-push_node.ensures
    ∙ ap (λ ps. ps ++ below (node_at ns child)) c.loop-child.invariant
    ∙ append_assoc c.args.picks.now (taken below task star c.args.level (range from child ns))
    (below (node_at ns child))
    ∙ ap (λ ps. c.args.picks.now ++ ps)
    (sym (child_taken below task star c.args.level from child ns le lt took))

pub push_node-returns : goal.push_node-returns
push_node-returns t c =
    let ns = c.args.walk.nodes.now in
    let n = node_at ns c.args.at in
    let task = task_of c.args.walk.task.now.matched c.args.walk.task.now.grouped in
    let k = length c.args.walk.task.now.matched in
    subst (λ ps. OnOk c.push_children.result (c.push_children.new.picks ≡ c.args.picks.now ++ ps))
    (sym (picks_split task k ns c.args.level n (sym c.is_unconstrained.ensures ∙ c.if-is_unconstrained.false)
    (ne_eqb n.children 0 (λ e. c.if-walk-at-eq0.false e))))
    c.push_children.ensures
