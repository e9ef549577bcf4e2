-- A star-tree of a segment beside the segment's rows: what its ids stand for, and its nodes.
use Rattle.std.specs.Prelude.{◌≡◌, ℕ, ℤ, List, map, slice_get, Some}
use Rattle.std.specs.List.{All}
use Rattle.values.specs.declared.value.Value.{Value}
use Rattle.value_ids.specs.Dictionary.{distinct}
use Rattle.star_tree.specs.Picks as asks
use Rattle.star_tree.specs.Picks as asks
use Rattle.table_schema.specs.declared.field.Field.{Field}
use Rattle.table_schema.specs.declared.query.BoundQuery.{BoundQuery}
use Rattle.table_schema.specs.declared.settings.TreeSetting.{TreeSetting}
use Rattle.table_schema.specs.declared.table.Table.{Table}
use Rattle.table_schema.specs.ValidTable.{IsRow, IsValidTable}
use Rattle.segment_file.specs.declared.trees.TreeNodes.{TreeNodes}
use Rattle.segment_head.specs.Heads.{IsHead, IsPartOf, Seen}
use Rattle.segment_file.specs.Image.{CanHold, image, values_in}
use Rattle.segment_file.specs.Names.{IsSegmentName}
use Rattle.segment_file.specs.Ordered.{ordered}
use Rattle.segment_file.specs.Trees.{tree_row}
use Rattle.segment_plan.specs.Laws.{TellsOf}
use Rattle.segment_plan.specs.Matched.{AreLoaded}
use Rattle.star_reader.specs.declared.asked.GroupColumn.{GroupColumn}
use Rattle.star_answer.specs.Served.{AreProjected, AsksFor, flat_of}
use Rattle.segment_reads.specs.Docs.{field_of, row_values}
use Rattle.star_answer.specs.Tasks.{AreColumnsOf, split_values}
use Rattle.segment_plan.specs.Named.{AreGroupsLoaded}

-- the rows as a tree has them
abbrev pub entries_of : List (List Value) → TreeSetting → List (List ℕ × List ℤ)
entries_of rows tree = map (tree_row rows tree) rows

-- each row has an id for each split dimension, which stands for its value there, and a number for
-- each pair
abbrev pub RowsAreProjected : Type 0
RowsAreProjected = (columns : List Field) (rows : List (List Value)) (tree : TreeSetting)
    → All (IsRow columns) rows
    → AreProjected tree.split tree.pairs (row_values rows tree.split) rows (entries_of rows tree)

-- what is asked by the values that a head has is asked by those of the rows that it tells of
abbrev pub AsksOfRows : Type 0
AsksOfRows = (query : BoundQuery) (table : Table) (rows : List (List Value)) (head : Seen)
    (split : List ℕ) (t : asks.Task) → TellsOf table rows head → AreLoaded query.conjuncts head
    → AsksFor query split (split_values head split) t
    → AsksFor query split (row_values rows split) t

-- and so the values of group columns are those of the rows
abbrev pub ColumnsOfRows : Type 0
ColumnsOfRows = (groups split : List ℕ) (table : Table) (rows : List (List Value)) (head : Seen)
    (columns : List GroupColumn) → TellsOf table rows head → AreGroupsLoaded groups head
    → AreColumnsOf groups split (split_values head split) columns
    → AreColumnsOf groups split (row_values rows split) columns

-- the nodes that the head of an image has of a tree are those of the tree of the rows in their
-- order, written flat
abbrev pub NodesOfRows : Type 0
NodesOfRows = (table : Table) (name file : List ℕ) (rows : List (List Value)) (whole head : Seen)
    (t : ℕ) (tree : TreeSetting) (said : TreeNodes) → IsValidTable table → IsSegmentName name
    → CanHold table rows → IsHead table name file (image 1 table name rows) whole
    → IsPartOf whole head → slice_get table.settings.trees t ≡ Some tree
    → slice_get head.trees t ≡ Some (Some said)
    → said.nodes ≡ (flat_of tree.shape (entries_of (ordered table.settings.sorted rows) tree)).0
