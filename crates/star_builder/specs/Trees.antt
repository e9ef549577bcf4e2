-- The tree of some rows, as it is written.
use Rattle.std.specs.Prelude.{◌≡◌, ◌+◌, ◌*◌, ◌<◌, ◌≤◌, List, length}
use Rattle.agg_laws.specs.declared.tree_shape.TreeShape.{TreeShape}
use Rattle.agg_laws.specs.Merged.{weights}
use Rattle.agg_laws.specs.Numbers.{most_stored}
use Rattle.agg_laws.specs.Rows.{merged_rows, row_weight}
use Rattle.agg_laws.specs.Tree.{root_of, tree_of, CoversTree, HaveNoStar}
use Rattle.state_columns.specs.Docs.{Doc, Docs}
use Rattle.star_tree.specs.Flat.{flat, tree_bytes, FlatAt}
use Rattle.star_tree.specs.Shares.{ShareTree}
use Rattle.star_table.specs.Shapes.{IsShape}
use Rattle.star_file.specs.Rules.{most_bytes, widths}
use Rattle.star_file.specs.declared.tree.StarTree.{StarTree}
use Rattle.star_builder.specs.Building.{bytes_of, Proper}

-- rows of which a tree of a shape is made: of the shape, none with a star, and no more than may be
-- merged
pub record AreRowsFor (shape : TreeShape) (rows : Docs) : Type 0 where
  pub bounded : IsShape shape
  pub dims : rows.dims ≡ shape.dims
  pub kinds : rows.kinds ≡ shape.kinds
  pub at_most : length rows.docs ≤ most_stored
  pub weight_fits : weights row_weight rows.docs ≤ most_stored
  pub no_star : HaveNoStar shape.dims rows.docs

-- the tree of some rows: nodes and documents of the nested tree, written flat, whose nodes cover
-- the rows, and whose split nodes share theirs among their children
pub record IsTreeOf (shape : TreeShape) (rows : List Doc) (tree : StarTree) : Type 0 where
  pub flat_is : (tree.nodes, tree.docs.docs)
      ≡ flat merged_rows (tree_of merged_rows shape shape.dims rows)
  pub nested : FlatAt merged_rows 0 0 (tree_of merged_rows shape shape.dims rows)
      (tree.nodes, tree.docs.docs)
  pub covers : CoversTree merged_rows rows (tree_of merged_rows shape shape.dims rows)
  pub children : ShareTree rows (tree_of merged_rows shape shape.dims rows)
  pub dims : tree.docs.dims ≡ shape.dims
  pub kinds : tree.docs.kinds ≡ shape.kinds
  pub fits : tree_bytes merged_rows (4 * shape.dims + widths shape.kinds)
      (tree_of merged_rows shape shape.dims rows) ≤ most_bytes

-- the tree of some rows takes more bytes than a tree may
abbrev pub IsTooLarge : TreeShape → List Doc → Type 0
IsTooLarge shape rows = most_bytes < tree_bytes merged_rows (4 * shape.dims + widths shape.kinds)
    (tree_of merged_rows shape shape.dims rows)

-- merged documents, of which there are some, for the root of a tree
pub record AreRootOf (shape : TreeShape) (docs : Docs) : Type 0 where
  pub bounded : IsShape shape
  pub dims : docs.dims ≡ shape.dims
  pub some : 0 < length docs.docs
  pub at_most : length docs.docs ≤ most_stored
  pub proper : Proper shape.dims 0 docs.docs

-- the tree below that root, written flat
pub record IsGrownFrom (shape : TreeShape) (docs : Docs) (tree : StarTree) : Type 0 where
  pub flat_is : (tree.nodes, tree.docs.docs)
      ≡ flat merged_rows (root_of merged_rows shape shape.dims docs.docs)
  pub dims : tree.docs.dims ≡ docs.dims
  pub kinds : tree.docs.kinds ≡ docs.kinds
  pub fits : bytes_of shape (flat merged_rows (root_of merged_rows shape shape.dims docs.docs))
      ≤ most_bytes
