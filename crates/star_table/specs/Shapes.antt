-- What is asked of the shape of a star-tree.
use Rattle.std.specs.Prelude.{◌≤◌, length}
use Rattle.agg_laws.specs.declared.tree_shape.TreeShape.{TreeShape}

-- 1 to 16 split dimensions, and at most 16 pairs
pub record IsShape (shape : TreeShape) : Type 0 where
  pub some_dims : 1 ≤ shape.dims
  pub few_dims : shape.dims ≤ 16
  pub few_kinds : length shape.kinds ≤ 16
