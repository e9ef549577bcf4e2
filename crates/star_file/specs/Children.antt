-- What is asked of one child of a node, as they are looked at in turn.
use Rattle.std.specs.Prelude.{◌≡◌, ◌≢◌, ℕ, suc, ◌-◌, ◌<◌, ◌≤◌, false}
use Rattle.star_tree.specs.declared.node.Node.{Node}
use Rattle.agg_laws.specs.Tree.{star}
use Rattle.star_file.specs.declared.children.ChildRules.{ChildRules}

-- a child with so many before it and so many after it, where the documents of the others so far end
-- at `from`, and ids from `least` on may come
pub record ChildKeeps (r : ChildRules) (before after from least : ℕ) (n : Node) : Type 0 where
  pub level_is : n.level ≡ suc r.level
  pub above : least ≤ n.id
  pub star_last : n.id ≡ star
      → (after ≡ 0) × (r.skipped ≡ false) × (2 ≤ before) × (n.end - n.start ≤ r.most)
  pub other : n.id ≢ star → (n.id < r.count) × (n.start ≡ from)
