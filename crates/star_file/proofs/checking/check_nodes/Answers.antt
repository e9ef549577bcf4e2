use Rattle.std.proofs.Common.{List, ℕ, drop, ap, subst, ◌∙◌}
use Rattle.star_tree.specs.declared.node.Node.{Node}
use Rattle.star_file.specs.Rules.{KeepAll, nodes_in, count_in}
use Rattle.star_file.proofs.Written as steps
use Rattle.star_file.proofs.checking.check_nodes.Goals as goal

pub returns-clause-keeps : goal.returns-clause-keeps
returns-clause-keeps c =
    let shape = c.args.shape.now in
    let counts = c.args.counts.now in
    record {
      lengths = steps.section_long c.args.bytes.now c.if-bytes-lt4.false c.if-bytes-ne0.false;
      keeps = subst (λ (n : ℕ). KeepAll shape counts n
          (nodes_in (count_in c.args.bytes.now) (drop 4 c.args.bytes.now))) c.number-documents.ensures
          (subst (λ (ns : List Node). KeepAll shape counts c.number-documents.result ns)
          (c.as_slice.ensures ∙ c.in_ok-nodes.ensures
          ∙ ap (nodes_in (count_in c.args.bytes.now)) (steps.after_number c.args.bytes.now))
          (c.nodes_keep.ensures.0 c.if-not-nodes_keep.false));
    }
