-- How the plan of a segment is written.
use Rattle.std.specs.Prelude.{ℕ, ◌+◌, ◌<◌, List, [], ◌∷◌, ◌++◌, length, codes, flat_map, Option, Some, None, IfSome, slice_get}
use Rattle.std.specs.Fmt.{decimal}
use Rattle.values.specs.declared.value.Value.{Value}
use Rattle.table_schema.specs.declared.query.BoundQuery.{BoundQuery}
use Rattle.table_schema.specs.declared.settings.TreeSetting.{TreeSetting}
use Rattle.table_schema.specs.declared.table.Table.{Table}
use Rattle.segment_head.specs.Heads.{Seen}
use Rattle.segment_plan.specs.declared.plans.IndexChoice.{IndexChoice}
use Rattle.segment_plan.specs.declared.plans.IndexChoice.TheVariants.{Unindexed, Sorted, Inverted, Range}
use Rattle.segment_plan.specs.declared.plans.SegmentPlan.{SegmentPlan}
use Rattle.segment_plan.specs.declared.plans.SegmentPlan.TheVariants.{Pruned, Empty, StarTree, Scan}
use Rattle.segment_plan.specs.Factors.{AreWholeLoaded, factors_of}
use Rattle.segment_plan.specs.Matched.{AreLoaded}
use Rattle.segment_plan.specs.Plan.{plan_of}
use Rattle.segment_plan.specs.Planned.{told_head}

-- ---- the words

-- the word for a plan; a tree counts from 1
abbrev pub plan_word : SegmentPlan → List ℕ
plan_word Pruned = codes "pruned"
plan_word Empty = codes "empty"
plan_word (StarTree tree) = codes "startree " ++ decimal (tree + 1)
plan_word (Scan plan) = codes "scan"

-- the word for how the rows of a conjunct are found
abbrev pub choice_word : IndexChoice → List ℕ
choice_word Unindexed = codes "none"
choice_word Sorted = codes "sorted"
choice_word Inverted = codes "inverted"
choice_word Range = codes "range"

-- ---- the details

-- the word for each choice, with a space between them
abbrev pub choices_text : List IndexChoice → List ℕ
choices_text [] = codes "-"
choices_text (first ∷ others) = choice_word first ++ flat_map
    (λ choice. 32 ∷ choice_word choice) others

-- the most documents of a leaf and the factors, with a star between them
abbrev pub factors_text : ℕ → List ℕ → List ℕ
factors_text leaf factors = decimal leaf ++ flat_map (λ factor. 42 ∷ decimal factor) factors

-- the detail of a tree, if there is one
abbrev pub tree_text : BoundQuery → Seen → Option TreeSetting → List ℕ
tree_text query head None = codes "-"
tree_text query head (Some tree) = factors_text tree.shape.leaf (factors_of query head tree)

-- the detail of a plan: how the rows of each conjunct are found, or the bound on the documents of a
-- tree as a product
abbrev pub detail_text : BoundQuery → Table → Seen → SegmentPlan → List ℕ
detail_text query table head (Scan plan) = choices_text plan.choices
detail_text query table head (StarTree tree) = tree_text query head
    (slice_get table.settings.trees tree)
detail_text query table head other = codes "-"

-- a plan and its detail
abbrev pub plan_text : BoundQuery → Table → Seen → SegmentPlan → List ℕ
plan_text query table head plan = plan_word plan ++ (44 ∷ detail_text query table head plan)

-- ---- what is said of a segment

-- of one with this head
abbrev pub explained_by : BoundQuery → Table → Seen → List ℕ
explained_by query table head = plan_text query table head (plan_of query table head)

-- of one that has these rows in this order
unfoldable pub explained_over : BoundQuery → Table → List (List Value) → List ℕ
explained_over query table rows = explained_by query table (told_head table rows)

-- what the detail of a plan is made of: of a tree of the table, the dictionaries that its factors
-- want were loaded
abbrev pub IsDetailed : BoundQuery → Table → Seen → SegmentPlan → Type 0
IsDetailed query table head (StarTree tree) = (tree < length table.settings.trees)
    × AreLoaded query.conjuncts head × IfSome (slice_get table.settings.trees tree)
    (AreWholeLoaded query head)
IsDetailed query table head other = Unit {0}
