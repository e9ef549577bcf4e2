use Rattle.std.proofs.Common.{ℕ, ◌<◌}
use Rattle.star_tree.specs.NodeRules.{KeepsRules}
use Rattle.star_file.proofs.rules.each_keeps.Given as goal

abbrev pub invariant-loop-at : goal.invariant-loop-at
invariant-loop-at l = (n : ℕ) → n < l.at
    → KeepsRules l.tree.shape.now l.tree.shape.now.dims l.tree.counts.now l.tree.documents
    l.tree.nodes.now n
