-- The plan of rows, apart from any file.
use Rattle.std.specs.Prelude.{ℕ, List, [], map, length, Some}
use Rattle.values.specs.declared.value.Value.{Value}
use Rattle.table_schema.specs.declared.query.BoundQuery.{BoundQuery}
use Rattle.table_schema.specs.declared.settings.TreeSetting.{TreeSetting}
use Rattle.table_schema.specs.declared.table.Table.{Table}
use Rattle.value_ids.specs.Dictionary.{Distinct}
use Rattle.segment_file.specs.Bounds.{bounds_of}
use Rattle.segment_head.specs.Heads.{Seen}
use Rattle.segment_file.specs.Image.{dictionary_of}
use Rattle.segment_file.specs.Parts.{columns_of}
use Rattle.segment_plan.specs.declared.plans.SegmentPlan.{SegmentPlan}
use Rattle.segment_plan.specs.Factors.{factors_of}
use Rattle.segment_plan.specs.Plan.{plan_of}

-- the dictionaries of the columns of these rows
abbrev pub dictionaries_over : Table → List (List Value) → List Distinct
dictionaries_over table rows = map (dictionary_of table rows) (columns_of table)

-- a head that says of rows how many they are, and what bounds and values their columns have
abbrev pub told_head : Table → List (List Value) → Seen
told_head table rows = record {
  rows = length rows;
  sections = [];
  bounds = bounds_of (dictionaries_over table rows);
  dictionaries = map Some (dictionaries_over table rows);
  trees = [];
}

-- the plan of a segment that has these rows in this order
abbrev pub plan_over : BoundQuery → Table → List (List Value) → SegmentPlan
plan_over query table rows = plan_of query table (told_head table rows)

-- how many values of each split dimension of a tree the query meets in these rows
abbrev pub factors_over : BoundQuery → Table → List (List Value) → TreeSetting → List ℕ
factors_over query table rows tree = factors_of query (told_head table rows) tree
