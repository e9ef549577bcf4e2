use Rattle.std.proofs.Common.{◌<◌, ◌++◌, ◌∷◌, [], length, refl}
use Rattle.star_tree.specs.declared.node.Node.{Node}
use Rattle.state_columns.proofs.RegionLemmas.{any_default}
use Rattle.star_file.specs.Bytes.{words, node_words, node_bytes}
use Rattle.star_file.proofs.Written as steps
use Rattle.star_file.proofs.writing.push_nodes.Goals as goal

pub loop-i-preserved : goal.loop-i-preserved
loop-i-preserved c =
    let nodes = c.as_slice-nodes.result.now in
    let i = c.loop-i.i in
    let lt : i < length nodes = c.loop-i-test.true in
    steps.more node_bytes (λ (n : Node). words (node_words n)) refl steps.node_first nodes i _
    (c.args.out.now.items ++ words (length c.args.tree.now.docs.docs ∷ [])) c.loop-i.out.items
    c.push_node.new.out.items lt (any_default nodes i _ _ lt) c.loop-i.invariant
    c.in_ok-push_node.ensures.ok
