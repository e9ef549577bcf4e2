-- A law of the heads of images.
use Rattle.std.specs.Prelude.{◌≡◌, ℕ, List, length, slice_get, Some}
use Rattle.values.specs.declared.value.Value.{Value}
use Rattle.table_schema.specs.declared.table.Table.{Table}
use Rattle.table_schema.specs.ValidTable.{IsValidTable}
use Rattle.table_schema.specs.declared.settings.TreeSetting.{TreeSetting}
use Rattle.segment_file.specs.declared.trees.TreeNodes.{TreeNodes}
use Rattle.segment_head.specs.Heads.{IsHead, IsPartOf, Seen}
use Rattle.segment_file.specs.Image.{CanHold, image}
use Rattle.segment_file.specs.Names.{IsSegmentName}
use Rattle.segment_file.specs.Ordered.{ordered}
use Rattle.segment_file.specs.Trees.{written}

-- how many documents the tree of rows has, and its nodes
pub record IsTold (rows : List (List Value)) (tree : TreeSetting) (said : TreeNodes) : Type 0 where
  pub documents_are : said.documents ≡ length (written rows tree).1
  pub nodes_are : said.nodes ≡ (written rows tree).0

-- what the head of an image says of a tree, where its nodes are loaded, is the flat tree of the
-- rows in their order
abbrev pub HeadTellsTrees : Type 0
HeadTellsTrees =
    (table : Table) (name file : List ℕ) (rows : List (List Value)) (whole head : Seen) (t : ℕ)
    (tree : TreeSetting) (said : TreeNodes) → IsValidTable table → IsSegmentName name
    → CanHold table rows
    → IsHead table name file (image 1 table name rows) whole → IsPartOf whole head
    → slice_get table.settings.trees t ≡ Some tree → slice_get head.trees t ≡ Some (Some said)
    → IsTold (ordered table.settings.sorted rows) tree said
