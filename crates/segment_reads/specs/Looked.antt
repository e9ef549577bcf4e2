-- How many documents of a segment are looked at for a query.
use Rattle.std.specs.Prelude.{◌≡◌, ℕ, List, length, Option, IfSome}
use Rattle.outside.specs.Files.{Files}
use Rattle.values.specs.declared.value.Value.{Value}
use Rattle.table_schema.specs.declared.query.BoundQuery.{BoundQuery}
use Rattle.table_schema.specs.declared.table.Table.{Table}
use Rattle.segment_plan.specs.declared.plans.SegmentPlan.{SegmentPlan}
use Rattle.segment_plan.specs.declared.plans.SegmentPlan.TheVariants.{Scan, StarTree}
use Rattle.segment_plan.specs.Planned.{plan_over}
use Rattle.segment_plan.specs.RowsLeft.{rows_left}
use Rattle.segment_reads.specs.Docs.{docs_read}
use Rattle.segment_head.specs.Stored.{HasImage}
use Rattle.segment_head.specs.declared.stored.Stored.{Stored}
use Rattle.segment_file.specs.Ordered.{ordered}

-- how many documents are looked at for a plan: of these rows those that the indexes of a scan
-- leave, or the documents that the query reads of their star-tree
abbrev pub docs_by : BoundQuery → Table → List (List Value) → SegmentPlan → ℕ
docs_by query table rows (Scan plan) = length (rows_left query plan.choices rows)
docs_by query table rows (StarTree tree) = docs_read query table rows tree
docs_by query table rows other = 0

-- how many documents of a segment that has these rows are looked at
abbrev pub docs_over : BoundQuery → Table → List (List Value) → ℕ
docs_over query table rows = docs_by query table rows (plan_over query table rows)

-- where files are told: if the segment's file is the image of rows, this is their plan, and so many
-- documents are looked at
abbrev pub IsDoneIn : BoundQuery → Table → Option Files → Stored → SegmentPlan → ℕ → Type 0
IsDoneIn query table held segment plan docs =
    IfSome held (λ files. (rows : List (List Value)) → HasImage table files segment rows
    → (plan ≡ plan_over query table (ordered table.settings.sorted rows))
    × (docs ≡ docs_over query table (ordered table.settings.sorted rows)))
