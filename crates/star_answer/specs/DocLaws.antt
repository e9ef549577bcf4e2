-- Laws of how many documents a query reads of a star-tree of a segment's rows.
use Rattle.std.specs.Prelude.{◌≡◌, ◌≤◌, ℕ, ◌*◌, pos, List, [], ◌∷◌, length, map, Option, Some, None, slice_get, slice_index_or}
use Rattle.std.specs.List.{list_all}
use Rattle.values.specs.declared.value.Value.{Value}
use Rattle.values.specs.declared.value.Value.TheVariants.{Whole}
use Rattle.star_tree.specs.Picks as asks
use Rattle.star_tree.specs.Picks.{picks, read_of}
use Rattle.agg_laws.specs.Rows.{merged_rows}
use Rattle.table_schema.specs.declared.field.Field.{Field}
use Rattle.table_schema.specs.declared.query.BoundQuery.{BoundQuery}
use Rattle.table_schema.specs.declared.settings.TreeSetting.{TreeSetting}
use Rattle.table_schema.specs.declared.table.Table.{Table}
use Rattle.table_schema.specs.Columns.{is_member}
use Rattle.table_schema.specs.ValidSettings.{IsValidTree}
use Rattle.table_schema.specs.ValidTable.{IsValidTable}
use Rattle.value_ids.specs.Dictionary.{most_values}
use Rattle.segment_file.specs.Trees.{nested, tree_row}
use Rattle.segment_plan.specs.declared.plans.SegmentPlan.TheVariants.{StarTree}
use Rattle.segment_plan.specs.Matched.{is_filtered, passes}
use Rattle.segment_plan.specs.Planned.{factors_over, plan_over}
use Rattle.star_walk.specs.Images as flat
use Rattle.star_walk.specs.Walking.{tree_picks}
use Rattle.segment_reads.specs.Docs.{docs_in, docs_read, product, row_values}
use Rattle.star_answer.specs.Served.{AsksFor, flat_of}

-- where a task asks by the values of the rows, the walk of the flat tree reads just so many
abbrev pub WalkReadsDocs : Type 0
WalkReadsDocs = (query : BoundQuery) (columns : List Field) (rows : List (List Value))
    (tree : TreeSetting) (t : asks.Task) → IsValidTree columns tree → length rows ≤ most_values
    → AsksFor query tree.split (row_values rows tree.split) t
    → flat.read_of
    (tree_picks t tree.shape.dims (flat_of tree.shape (map (tree_row rows tree) rows)).0)
    ≡ docs_in query rows (Some tree)

-- where the plan of the rows is a tree, a query reads of it at most its leaf size times a factor
-- for each split dimension: how many values of the dimension it meets in the rows
abbrev pub DocsAreBounded : Type 0
DocsAreBounded = (query : BoundQuery) (table : Table) (rows : List (List Value)) (t : ℕ)
    (tree : TreeSetting) → IsValidTable table → length rows ≤ most_values
    → plan_over query table rows ≡ StarTree t → slice_get table.settings.trees t ≡ Some tree
    → docs_read query table rows t ≤ tree.shape.leaf * product (factors_over query table rows tree)

-- it never reads more of a tree than there are rows
abbrev pub DocsAreFew : Type 0
DocsAreFew = (query : BoundQuery) (table : Table) (rows : List (List Value)) (t : ℕ)
    → IsValidTable table → length rows ≤ most_values
    → docs_read query table rows t ≤ length rows
