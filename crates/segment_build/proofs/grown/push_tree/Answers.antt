use Rattle.std.proofs.Common.{◌∙◌, ◌++◌, length, ap, refl}
use Rattle.star_file.specs.Bytes.{nodes_section}
use Rattle.segment_build.proofs.MadeLemmas.{each_more}
use Rattle.segment_build.proofs.grown.push_tree.Goals as goal

pub returns-clause-nodes : goal.returns-clause-nodes
returns-clause-nodes c =
    let section = nodes_section (length c.args.tree.docs.docs) c.args.tree.nodes in
    each_more _ _ _ section c.in_ok-push.ensures.items (c.from_vec.ensures ∙ c.in_ok-write_nodes.ensures.ok ∙ ap (λ x. x ++ section) c.new-nodes.ensures.items)

pub returns-clause-stars : goal.returns-clause-stars
returns-clause-stars c = each_more _ _ _ _ c.in_ok-push-2.ensures.items refl
