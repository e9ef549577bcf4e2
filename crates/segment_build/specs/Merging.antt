-- The documents of a segment's trees as they are merged, before the trees are built.
use Rattle.std.specs.Prelude.{◌≡◌, ◌≤◌, ℕ, List, length, Result, IfOk, OnOk, IsErrOf}
use Rattle.std.specs.List.{AllZip}
use Rattle.agg_laws.specs.Merged.{weights}
use Rattle.agg_laws.specs.Numbers.{most_stored}
use Rattle.agg_laws.specs.Rows.{merged_rows, row_weight}
use Rattle.agg_laws.specs.Tree.{HaveNoStar, merged_docs}
use Rattle.state_columns.specs.Docs.{Docs}
use Rattle.star_table.specs.Shapes.{IsShape}
use Rattle.star_file.specs.declared.tree.StarTree.{StarTree}
use Rattle.star_builder.specs.declared.fault.TreeFault.{TreeFault}
use Rattle.star_builder.specs.declared.fault.TreeFault.TheVariants.{TooLarge}
use Rattle.values.specs.declared.value.Value.{Value}
use Rattle.values.specs.Columns.{ListedColumns, rows_of}
use Rattle.table_schema.specs.declared.settings.TreeSetting.{TreeSetting}
use Rattle.table_schema.specs.declared.table.Table.{Table}
use Rattle.segment_file.specs.Image.{image, sections_of_rows}
use Rattle.segment_file.specs.Ordered.{ordered}
use Rattle.segment_file.specs.Trees.{TreeFits, documents, written}
use Rattle.segment_build.specs.declared.build.KeptFile.{KeptFile}
use Rattle.segment_build.specs.declared.fault.BuildFault.{BuildFault}
use Rattle.segment_build.specs.declared.grown.Grown.{Grown}
use Rattle.segment_build.specs.declared.made.MadeFile.{MadeFile}
use Rattle.segment_build.specs.Fitting.{AreOfTable}
use Rattle.segment_build.specs.Growing.{IsBuilt, nodes_grown, stars_grown}
use Rattle.segment_build.specs.Made.{each_bytes, file_bytes}
use Rattle.segment_build.specs.Sections.{made_of}

-- the documents of a tree over rows that are in order, merged
pub record IsMerged (rows : List (List Value)) (tree : TreeSetting) (docs : Docs) : Type 0 where
  pub bounded : IsShape tree.shape
  pub dims : docs.dims ≡ tree.shape.dims
  pub kinds : docs.kinds ≡ tree.shape.kinds
  pub are : docs.docs ≡ merged_docs merged_rows (documents rows tree)
  pub at_most : length docs.docs ≤ most_stored
  pub weight_fits : weights row_weight docs.docs ≤ most_stored
  pub no_star : HaveNoStar tree.shape.dims docs.docs

-- the rows as documents of a tree, merged in the order in which they came
pub record MergesRows (rows : List (List Value)) (tree : TreeSetting) (docs : Docs) : Type 0 where
  pub dims : docs.dims ≡ tree.shape.dims
  pub kinds : docs.kinds ≡ tree.shape.kinds
  pub are : docs.docs ≡ merged_docs merged_rows (documents rows tree)
  pub at_most : length docs.docs ≤ most_stored
  pub weight_fits : weights row_weight docs.docs ≤ most_stored

-- the columns of a table's rows, and the merged documents of each tree
pub record AreMerged (table : Table) (t : ListedColumns) (docs : List Docs) : Type 0 where
  pub of_table : AreOfTable table t
  pub each : AllZip (IsMerged (ordered table.settings.sorted (rows_of t))) table.settings.trees docs

-- a tree of rows is grown where it takes no more bytes than one may
pub record GrowsTree (rows : List (List Value)) (tree : TreeSetting)
    (result : Result StarTree TreeFault) : Type 0 where
  pub are : IfOk result (λ grown. (grown.nodes, grown.docs.docs) ≡ written rows tree)
  pub kinds : IfOk result (λ grown. grown.docs.kinds ≡ tree.shape.kinds)
  pub fits : OnOk result (TreeFits rows tree)
  pub too_large : IsErrOf result TooLarge → ¬ TreeFits rows tree

-- the sections of all trees are grown, or the first is told that is too large
pub record GrowsTrees (table : Table) (rows : List (List Value))
    (result : Result Grown BuildFault) : Type 0 where
  pub nodes : IfOk result (λ grown. each_bytes grown.nodes.items
      ≡ nodes_grown (ordered table.settings.sorted rows) table.settings.trees)
  pub stars : IfOk result (λ grown. each_bytes grown.stars.items
      ≡ stars_grown (ordered table.settings.sorted rows) table.settings.trees)
  pub built : IsBuilt table rows result

-- what is kept of columns when they are let go: how many rows there are, the sections of the
-- columns, and the merged documents
pub record IsKeptFile (table : Table) (t : ListedColumns) (kept : KeptFile) : Type 0 where
  pub merged : AreMerged table t kept.merged.items
  pub sections : kept.sections ≡ made_of table (ordered table.settings.sorted (rows_of t))
      (length table.schema.fields)
  pub rows : kept.rows ≡ t.count

-- the file of rows is made, or the first tree is told that is too large
pub record MakesFile (table : Table) (name : List ℕ) (rows : List (List Value))
    (result : Result MadeFile BuildFault) : Type 0 where
  pub image : IfOk result (λ made. file_bytes made ≡ image 1 table name rows)
  pub sections : IfOk result (λ made. each_bytes made.sections.items
      ≡ sections_of_rows table (ordered table.settings.sorted rows))
  pub built : IsBuilt table rows result
