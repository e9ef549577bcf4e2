-- How many documents a query reads of a star-tree of a segment's rows, apart from any file: those
-- of the picks of the nested tree, where the query asks of ids what it asks of their values.
use Rattle.std.specs.Prelude.{◌≡◌, ℕ, ◌*◌, pos, List, [], ◌∷◌, Option, Some, None, slice_get, slice_index_or}
use Rattle.std.specs.List.{list_all}
use Rattle.values.specs.declared.value.Value.{Value}
use Rattle.values.specs.declared.value.Value.TheVariants.{Whole}
use Rattle.value_ids.specs.Dictionary.{distinct}
use Rattle.star_tree.specs.Picks as asks
use Rattle.star_tree.specs.Picks.{picks, read_of}
use Rattle.agg_laws.specs.Rows.{merged_rows}
use Rattle.table_schema.specs.declared.query.BoundQuery.{BoundQuery}
use Rattle.table_schema.specs.declared.settings.TreeSetting.{TreeSetting}
use Rattle.table_schema.specs.declared.table.Table.{Table}
use Rattle.table_schema.specs.Columns.{is_member}
use Rattle.segment_file.specs.Image.{values_in}
use Rattle.segment_file.specs.Trees.{nested}
use Rattle.segment_plan.specs.Matched.{is_filtered, passes}

-- the field of a split dimension
abbrev pub field_of : List ℕ → ℕ → ℕ
field_of split d = slice_index_or split d 0

-- the distinct values of rows in a split dimension, ascending
abbrev pub row_values : List (List Value) → List ℕ → ℕ → List Value
row_values rows split d = distinct (values_in (field_of split d) rows)

-- what a query asks of the ids of a tree of these rows: of an id what it asks of the value that the
-- id stands for
abbrev pub task_over : BoundQuery → List (List Value) → List ℕ → asks.Task
task_over query rows split = record {
  filtered = λ d. is_filtered query.conjuncts (field_of split d);
  passes = λ d id. list_all
      (passes (field_of split d) (slice_index_or (row_values rows split d) id (Whole (pos 0))))
      query.conjuncts;
  grouped = λ d. is_member query.groups (field_of split d);
}

-- how many documents a query reads of a tree of these rows
unfoldable pub docs_of : BoundQuery → List (List Value) → TreeSetting → ℕ
docs_of query rows tree =
    read_of (picks merged_rows (task_over query rows tree.split) tree.shape.dims (nested rows tree))

-- of no tree none are read
abbrev pub docs_in : BoundQuery → List (List Value) → Option TreeSetting → ℕ
docs_in query rows None = 0
docs_in query rows (Some tree) = docs_of query rows tree

-- how many a query reads of the tree with this number
abbrev pub docs_read : BoundQuery → Table → List (List Value) → ℕ → ℕ
docs_read query table rows t = docs_in query rows (slice_get table.settings.trees t)

-- the product of some numbers
abbrev pub product : List ℕ → ℕ
product [] = 1
product (n ∷ ns) = n * product ns
