-- What is done with a segment is what its rows ask for.
use Rattle.std.proofs.Common.{◌≡◌, ◌∙◌, ◌++◌, ℕ, List, Option, Some, None, IfSome, length, sym, ap}
use Rattle.outside.specs.Files.{Files}
use Rattle.values.specs.declared.value.Value.{Value}
use Rattle.table_schema.specs.declared.query.BoundQuery.{BoundQuery}
use Rattle.table_schema.specs.declared.table.Table.{Table}
use Rattle.table_schema.specs.ValidQuery.{IsValidQuery}
use Rattle.table_schema.specs.ValidTable.{IsValidTable}
use Rattle.segment_head.specs.Heads.{Seen}
use Rattle.segment_file.specs.Ordered.{ordered}
use Rattle.segment_plan.specs.declared.plans.ScanPlan.{ScanPlan}
use Rattle.segment_plan.specs.declared.plans.SegmentPlan.{SegmentPlan}
use Rattle.segment_plan.specs.declared.plans.SegmentPlan.TheVariants.{Scan, StarTree}
use Rattle.segment_plan.specs.Laws.{HeadTells, IsPlannable, PlanIsOver}
use Rattle.segment_plan.specs.Plan.{plan_of}
use Rattle.segment_plan.specs.Planned.{plan_over}
use Rattle.segment_head.specs.Stored.{IsOfImage}
use Rattle.segment_scan.specs.Images.{AreDocs, choices_for}
use Rattle.segment_plan.specs.RowsLeft.{rows_left}
use Rattle.segment_reads.specs.Docs.{docs_read}
use Rattle.query_executor.specs.Lines.{line_by, stats_line, stats_text}
use Rattle.segment_reads.specs.Looked.{docs_by, IsDoneIn}
use Rattle.query_executor.specs.Steps.{AddsLine}
use Rattle.segment_opening.specs.Opened.{IsHeadIn}
use Rattle.segment_head.specs.declared.stored.Stored.{Stored}

module _ (query : BoundQuery) (table : Table) where
  -- where files are told, on the image of rows so many documents are looked at by this plan
  abbrev AreLookedAt : Option Files → Seen → SegmentPlan → ℕ → Type 0
  AreLookedAt held head plan docs = IfSome held (λ files. (rows : List (List Value)) → IsOfImage table files rows head → docs ≡ docs_by query table (ordered table.settings.sorted rows) plan)

  pub done_so : HeadTells → PlanIsOver → IsValidTable table → IsValidQuery table query → (held : Option Files) (segment : Stored) (head : Seen) (plan : SegmentPlan) (docs : ℕ) → plan ≡ plan_of query table head → IsPlannable query head → AreLookedAt held head plan docs
      → IsHeadIn table held segment head → IsDoneIn query table held segment plan docs
  done_so tells_law law valid query_valid None segment head plan docs plan_is known looked is = tt
  done_so tells_law law valid query_valid (Some files) segment head plan docs plan_is known looked is = λ rows has.
      let i = is rows has in
      let os : List (List Value) = ordered table.settings.sorted rows in
      let tells = tells_law table i.name i.file rows i.whole head valid i.named i.can i.is_head i.part in
      let over : plan ≡ plan_over query table os = plan_is ∙ law query table os head query_valid tells known in
      (over, looked rows i ∙ ap (docs_by query table os) over)

  -- none is, by a plan that asks for none
  pub none_looked : (held : Option Files) (head : Seen) (plan known : SegmentPlan) (docs : ℕ) → plan ≡ known → ((rows : List (List Value)) → docs_by query table rows known ≡ 0) → docs ≡ 0 → AreLookedAt held head plan docs
  none_looked None head plan known docs is none zero = tt
  none_looked (Some files) head plan known docs is none zero = λ rows of.
      let os : List (List Value) = ordered table.settings.sorted rows in
      zero ∙ sym (none os) ∙ ap (docs_by query table os) (sym is)

  pub none_done : HeadTells → PlanIsOver → IsValidTable table → IsValidQuery table query → (held : Option Files) (segment : Stored) (head : Seen) (plan known : SegmentPlan) (docs : ℕ) → plan ≡ known → known ≡ plan_of query table head → IsPlannable query head
      → ((rows : List (List Value)) → docs_by query table rows known ≡ 0) → docs ≡ 0 → IsHeadIn table held segment head → IsDoneIn query table held segment plan docs
  none_done tells_law law valid query_valid held segment head plan known docs is planned plannable none zero image =
      done_so tells_law law valid query_valid held segment head plan docs (is ∙ planned) plannable (none_looked held head plan known docs is none zero) image

  -- those that the indexes leave, by a scan
  pub scan_looked : (held : Option Files) (head : Seen) (plan : ScanPlan) (docs : ℕ) → plan.choices ≡ choices_for query table head → AreDocs query table held head docs → AreLookedAt held head (Scan plan) docs
  scan_looked held head plan docs choices are = by held are.told
    where
      by : (h : Option Files) → IfSome h (λ files. (rows : List (List Value)) → IsOfImage table files rows head → docs ≡ length (rows_left query (choices_for query table head) (ordered table.settings.sorted rows))) → AreLookedAt h head (Scan plan) docs
      by None told = tt
      by (Some files) told = λ rows of. told rows of ∙ ap (λ cs. length (rows_left query cs (ordered table.settings.sorted rows))) (sym choices)

  -- those that the query reads of a star-tree
  pub tree_looked : (held : Option Files) (head : Seen) (tree docs : ℕ) → IfSome held (λ files. (rows : List (List Value)) → IsOfImage table files rows head → docs ≡ docs_read query table (ordered table.settings.sorted rows) tree) → AreLookedAt held head (StarTree tree) docs
  tree_looked None head tree docs are = tt
  tree_looked (Some files) head tree docs are = are

  -- its line is that of the rows
  pub stats_added : (held : Option Files) (segment : Stored) (plan : SegmentPlan) (docs : ℕ) (old new : List ℕ) → IsDoneIn query table held segment plan docs → new ≡ old ++ line_by segment.name (stats_text plan docs) → AddsLine (stats_line query table) table held segment old new
  stats_added None segment plan docs old new done is = tt
  stats_added (Some files) segment plan docs old new done is = λ rows has.
      let (plan_is, docs_are) = done rows has in
      is ∙ (λ i. old ++ line_by segment.name (stats_text (plan_is i) (docs_are i)))
