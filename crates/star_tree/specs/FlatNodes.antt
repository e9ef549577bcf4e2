-- The flat tree of some rows, node by node.
use Rattle.std.specs.Prelude.{◌≡◌, ℕ, ◌+◌, ◌-◌, List, length}
use Rattle.agg_laws.specs.declared.tree_shape.TreeShape.{TreeShape}
use Rattle.agg_laws.specs.Tree.{dim, under, CoversRows}
use Rattle.star_tree.specs.Flat.{Flat, IsNode}

-- the node with this number is a node of the nested tree of these rows: that with this path, whose
-- last id is its own
pub record IsOfTree {S : Type 0} (join : S → S → S) (shape : TreeShape) (k : ℕ)
    (rows : List (List ℕ × S)) (at : ℕ) (f : Flat S) : Type 0 where
  pub path : List ℕ
  pub levels : ℕ
  pub levels_are : length path + levels ≡ k
  pub docs : List (List ℕ × S)
  pub covers : CoversRows join rows path docs
  pub is : IsNode join (length path) at (dim (length path - 1) path) docs
      (under join shape levels (length path) docs) f
