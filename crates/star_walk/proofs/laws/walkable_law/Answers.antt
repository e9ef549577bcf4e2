use Rattle.std.proofs.Common.{ℕ, ◌+◌, ◌<◌, ◌≤◌, ◌^◌, List, length, arith, inl, inr}
use Rattle.std.proofs.lemmas.Bool.{cases_lt}
use Rattle.star_tree.specs.declared.node.Node.{Node}
use Rattle.agg_laws.specs.declared.tree_shape.TreeShape.{TreeShape}
use Rattle.star_tree.specs.Flat.{node_at}
use Rattle.star_tree.specs.NodeRules.{KeepsRules}
use Rattle.star_walk.specs.Walking.{StandsAmong}
use Rattle.star_walk.proofs.WithinSteps.{InDocs, tree_in}
use Rattle.star_walk.proofs.laws.walkable_law.Goals as goal

children_among : (shape : TreeShape) (k : ℕ) (counts : List ℕ) (documents : ℕ) (ns : List Node)
    (at : ℕ) → KeepsRules shape k counts documents ns at
    → (node_at ns at).first + (node_at ns at).children ≤ length ns
children_among shape k counts documents ns at r =
    elim (cases_lt 0 (node_at ns at).children) [
      | inl some ↦ r.split_last some
      | inr none ↦ omega (arith, r.leaf_first (omega arith))
    ]

in_docs : (shape : TreeShape) (counts : List ℕ) (documents : ℕ) (ns : List Node)
    → ((at : ℕ) → at < length ns → KeepsRules shape shape.dims counts documents ns at)
    → (at : ℕ) → at < length ns → InDocs documents ns (node_at ns at)
in_docs shape counts documents ns h at lt =
    let r = h at lt in
    record {
      order = r.order;
      inside = r.inside;
      total_in = r.total;
      children_in = children_among shape shape.dims counts documents ns at r;
    }

stands : (shape : TreeShape) (counts : List ℕ) (documents : ℕ) (ns : List Node)
    → documents < 2 ^ 32
    → ((at : ℕ) → at < length ns → KeepsRules shape shape.dims counts documents ns at)
    → (at : ℕ) → at < length ns → StandsAmong ns (node_at ns at)
stands shape counts documents ns at_most h at lt =
    let i = in_docs shape counts documents ns h at lt in
    record {
      children_in = i.children_in;
      total_in = omega arith;
    }

pub returns : goal.returns
returns c = record {
  walkable = stands;
  within = λ t shape counts documents ns h. tree_in t shape.dims documents ns
      (in_docs shape counts documents ns h);
}
