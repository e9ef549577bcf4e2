-- A segment with a column that is left without a value adds nothing, and its plan says so.
use Rattle.std.proofs.Common.{◌≡◌, ◌∙◌, ◌+◌, ◌==◌, ◌||◌, inr, ℕ, false, cond, List, [], Option, Some, None, IfSome, refl, sym, ap, subst, arith}
use Rattle.std.specs.List.{list_any}
use Rattle.outside.specs.Files.{Files}
use Rattle.values.specs.declared.value.Value.{Value}
use Rattle.table_schema.specs.declared.query.BoundQuery.{BoundQuery}
use Rattle.table_schema.specs.declared.table.Table.{Table}
use Rattle.table_schema.specs.ValidQuery.{IsValidQuery}
use Rattle.table_schema.specs.ValidTable.{IsValidTable}
use Rattle.group_table.specs.Kept.{IsTableOf, KeptGroups, groups_in}
use Rattle.group_table.proofs.GroupsLemmas.{none as no_rows}
use Rattle.group_table.specs.Shape.{shape_of}
use Rattle.scan_engine.proofs.AddLemmas.{at_most_more}
use Rattle.eligibility.specs.Rule.{picked}
use Rattle.segment_head.specs.Heads.{IsHead, Seen}
use Rattle.segment_head.specs.Stored.{IsOfImage, HasImage}
use Rattle.segment_head.specs.declared.stored.Stored.{Stored}
use Rattle.segment_file.specs.Ordered.{ordered}
use Rattle.segment_plan.specs.Laws.{EmptyHasNone, HeadTells, PlanIsOver, TellsOf}
use Rattle.segment_plan.specs.Plan.{plan_of, scan_of, tree_or}
use Rattle.segment_plan.specs.Planned.{plan_over}
use Rattle.segment_plan.specs.Pruning.{is_excluded, is_pruned}
use Rattle.segment_plan.specs.declared.plans.SegmentPlan.{SegmentPlan}
use Rattle.segment_plan.specs.declared.plans.SegmentPlan.TheVariants.{Pruned, Empty}
use Rattle.segment_reads.specs.Looked.{docs_by, IsDoneIn}
use Rattle.segment_opening.specs.Emptied.{IsEmptied, LeavesNone}
use Rattle.segment_opening.specs.Opened.{IsHeadIn}
use Rattle.segment_opening.proofs.EmptyLemmas.{part_self}
use Rattle.query_executor.specs.Steps.{AddsGroups, AddsStored, selected_in}
use Rattle.query_executor.proofs.PlanLemmas.{none_selected}

module _ (query : BoundQuery) (table : Table) (segment : Stored) (head : Seen) (valid : IsValidTable table) (tells_law : HeadTells) where
  -- the whole head of an image tells of its rows
  whole_tells : (files : Files) (rows : List (List Value)) (i : IsOfImage table files rows head) → TellsOf table (ordered table.settings.sorted rows) i.whole
  whole_tells files rows i = tells_law table i.name i.file rows i.whole i.whole valid i.named i.can i.is_head (part_self i.whole)

  left_none : (files : Files) (rows : List (List Value)) (i : IsOfImage table files rows head) → IsEmptied query table (Some files) head → LeavesNone query table i.whole
  left_none files rows i none = none i.name i.file i.whole (subst (λ bytes. IsHead table i.name i.file bytes i.whole) (sym i.stored) i.is_head) i.part

  -- nothing is added
  pub adds_empty : EmptyHasNone → (held : Option Files) (groups : KeptGroups) → IsTableOf query groups → IsEmptied query table held head → IsHeadIn table held segment head → AddsStored query table held segment groups groups
  adds_empty law held groups of none is = record {
    of_query = of;
    most = refl;
    fits = λ n fits. at_most_more (groups_in groups) n (n + 1048576) (omega arith) fits;
    told = by held none is;
  }
    where
      by : (h : Option Files) → IsEmptied query table h head → IsHeadIn table h segment head → IfSome h (λ files. (rows : List (List Value)) → HasImage table files segment rows → AddsGroups query (selected_in query table rows) groups groups)
      by None none is = tt
      by (Some files) none is = λ rows has.
          let i = is rows has in
          let left = left_none files rows i none in
          let no_row : selected_in query table rows ≡ [] = none_selected query (ordered table.settings.sorted rows) (law query.conjuncts table (ordered table.settings.sorted rows) i.whole (whole_tells files rows i) left.loaded left.emptied) in
          subst (λ l. AddsGroups query l groups groups) (sym no_row) (no_rows (shape_of query) (groups_in groups))

  -- the plan of the rows is to look at none of them
  pub empty_done : PlanIsOver → IsValidQuery table query → (held : Option Files) (plan : SegmentPlan) (docs : ℕ) → plan ≡ Empty → docs ≡ 0 → is_pruned query head ≡ false → IsEmptied query table held head → IsHeadIn table held segment head → IsDoneIn query table held segment plan docs
  empty_done law query_valid None plan docs plan_is zero kept none is = tt
  empty_done law query_valid (Some files) plan docs plan_is zero kept none is = λ rows has.
      let i = is rows has in
      let os : List (List Value) = ordered table.settings.sorted rows in
      let left = left_none files rows i none in
      let rows_same = i.part.rows_same in
      let bounds_same = i.part.bounds_same in
      let whole_kept : is_pruned query i.whole ≡ false = (λ j. sym rows_same j == 0 || list_any (is_excluded (sym bounds_same j)) query.conjuncts) ∙ kept in
      let emptied = left.emptied in
      let whole_plan : plan_of query table i.whole ≡ Empty = (λ j. cond (whole_kept j) Pruned (cond (emptied j) Empty (tree_or (scan_of query table i.whole) (picked query table.settings.trees)))) in
      let over : plan ≡ plan_over query table os = plan_is ∙ sym whole_plan ∙ law query table os i.whole query_valid (whole_tells files rows i) (inr left.loaded) in
      (over, zero ∙ ap (docs_by query table os) (sym plan_is ∙ over))
