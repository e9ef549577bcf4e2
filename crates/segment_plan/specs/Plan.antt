-- What is to be done with a segment for a query.
use Rattle.std.specs.Prelude.{ℕ, Bool, ◌&&◌, ◌==◌, List, map, Option, Some, None, if◌then◌else◌}
use Rattle.std.specs.List.{list_any}
use Rattle.table_schema.specs.declared.query.BoundQuery.{BoundQuery}
use Rattle.table_schema.specs.declared.query.Conjunct.{Conjunct}
use Rattle.table_schema.specs.declared.table.Table.{Table}
use Rattle.eligibility.specs.Rule.{picked}
use Rattle.segment_head.specs.Heads.{Seen}
use Rattle.segment_file.specs.Parts.{columns_of}
use Rattle.segment_plan.specs.declared.plans.SegmentPlan.{SegmentPlan}
use Rattle.segment_plan.specs.declared.plans.SegmentPlan.TheVariants.{Pruned, Empty, StarTree, Scan}
use Rattle.segment_plan.specs.Choices.{choice_of}
use Rattle.segment_plan.specs.Matched.{is_filtered, matched, values_in}
use Rattle.segment_plan.specs.Pruning.{is_pruned}

-- conjuncts name the column alone, and none of its values satisfies them all
abbrev pub leaves_none : List Conjunct → Seen → ℕ → Bool
leaves_none conjuncts head column = is_filtered conjuncts column
    && matched conjuncts column (values_in head column) == 0

-- some column is left without a value
abbrev pub is_emptied : List Conjunct → Table → Seen → Bool
is_emptied conjuncts table head = list_any (leaves_none conjuncts head) (columns_of table)

-- the tree of this number; without one a scan with these choices
abbrev pub tree_or : SegmentPlan → Option ℕ → SegmentPlan
tree_or scan None = scan
tree_or scan (Some tree) = StarTree tree

-- the scan, with a choice for each conjunct
abbrev pub scan_of : BoundQuery → Table → Seen → SegmentPlan
scan_of query table head = Scan
    (record { choices = map (choice_of table.settings head) query.conjuncts })

-- the plan of a segment with this head: the first that applies
abbrev pub plan_of : BoundQuery → Table → Seen → SegmentPlan
plan_of query table head =
    if is_pruned query head then Pruned else
    if is_emptied query.conjuncts table head then Empty else
    tree_or (scan_of query table head) (picked query table.settings.trees)
