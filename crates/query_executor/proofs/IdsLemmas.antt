-- What a scan by ids of columns does to groups, reads and is refused by, for the query that tests their values.
use Rattle.std.proofs.Common.{◌≡◌, ◌≢◌, ◌∙◌, ◌+◌, ◌<◌, ◌≤◌, ◌∷◌, [], ℕ, false, true, List, Option, Some, None, IfSome, Result, Ok, Err, inl, inr, length, map, refl, sym, ap, subst, arith}
use Rattle.outside.specs.Files.{Files, bytes_of}
use Rattle.outside.specs.Reads.{Entry}
use Rattle.values.specs.declared.value.Value.{Value}
use Rattle.table_schema.specs.declared.query.BoundQuery.{BoundQuery}
use Rattle.table_schema.specs.declared.query.Conjunct.{Conjunct}
use Rattle.table_schema.specs.declared.table.Table.{Table}
use Rattle.group_table.specs.Kept.{IsTableOf, KeptGroups, groups_in}
use Rattle.scan_engine.specs.Scanned.{HaveAtMost}
use Rattle.scan_engine.proofs.AddLemmas.{at_most_more}
use Rattle.segment_file.specs.Ordered.{ordered}
use Rattle.segment_file.specs.declared.part.Part.{Part}
use Rattle.segment_head.specs.Heads.{IsHeadOf, Seen}
use Rattle.segment_head.specs.Heads as heads
use Rattle.segment_head.specs.Stored.{HasImage, HasNoImage, IsOfImage}
use Rattle.segment_head.specs.declared.stored.Stored.{Stored}
use Rattle.segment_head.proofs.SectionLemmas.{rows_few}
use Rattle.segment_plan.specs.Laws.{HeadTells}
use Rattle.segment_plan.specs.Planned.{plan_over}
use Rattle.segment_plan.specs.RowsLeft.{rows_left}
use Rattle.segment_plan.specs.Named.{AreNamedLoaded}
use Rattle.segment_plan.specs.Matched.{AreLoaded}
use Rattle.segment_plan.specs.declared.plans.ScanPlan.{ScanPlan}
use Rattle.segment_plan.specs.declared.plans.SegmentPlan.TheVariants.{Scan}
use Rattle.segment_reads.specs.Logs.{EndsInHead}
use Rattle.segment_reads.specs.Looked.{docs_by, IsDoneIn}
use Rattle.segment_reads.specs.Reads.{LogsOne, ReadsBy, ReadsPlanned}
use Rattle.segment_opening.specs.Calls.{IsOpened}
use Rattle.segment_opening.specs.Found.{ids_in, keeping}
use Rattle.segment_opening.specs.Opened.{IsHeadIn, IsSpreadIn}
use Rattle.segment_opening.proofs.NamedLemmas.{filtered_names}
use Rattle.segment_scan.specs.Images.{AddsImage, AreDocs, ImagesLeave, ImagesRead, IsBadIn, IsImageOverfull, LogsScan, LogsScanPartly, choices_for}
use Rattle.segment_scan.proofs.ScanReads.{image_scan, image_scan_partly}
use Rattle.value_ids.specs.Dictionary.{Distinct}
use Rattle.outside.specs.Seen as outside
use Rattle.outside.proofs.ReadLemmas.{on-err}
use Rattle.table_schema.specs.ValidTable.{IsValidTable}
use Rattle.segment_head.specs.declared.fault.EngineFault.{EngineFault}
use Rattle.segment_head.specs.declared.fault.EngineFault.TheVariants as engine
use Rattle.star_answer.specs.DocLaws.{DocsAreBounded}
use Rattle.segment_reads.proofs.LogLemmas.{logs_none}
use Rattle.query_executor.proofs.EndLemmas.{fault_not, fault_ok, memory_not_bad, memory_not_full, memory_not_read, reads_unread}
use Rattle.query_executor.proofs.OneReads.{given_up, none_one}
use Rattle.query_executor.proofs.IdsGiven as ids
use Rattle.query_executor.proofs.IdsHeads.{kept_head}
use Rattle.query_executor.proofs.IdsRefused.{refused}
use Rattle.query_executor.specs.Alike.{IdsAreAlike, IsAlike}
use Rattle.query_executor.specs.ByIds.{AsksBy, CanAskByIds}
use Rattle.query_executor.specs.Passes.{AddsSegment, FailsInRows, IsBadPart}
use Rattle.query_executor.specs.Steps.{AddsGroups, AddsStored, IsStoredOverfull, selected_in}

module _ (query asked : BoundQuery) (table : Table) (segment : Stored) (head : Seen) (conjuncts : List Conjunct) (counts : List (Option ℕ)) (by : AsksBy query asked conjuncts) where
  abbrev pub given : Seen
  given = keeping (ids_in counts head.dictionaries) head

  abbrev Can : Option Files → Type 0
  Can held = CanAskByIds query table held segment head conjuncts counts

  pub given_head : (held : Option Files) → Can held → IsHeadOf table given
  given_head held can = ids.given_head query asked table head conjuncts counts by can.opened.of can.askable

  pub given_loaded : (held : Option Files) → Can held → AreNamedLoaded asked given
  given_loaded held can = ids.given_loaded query asked table head conjuncts counts by can.opened.of can.askable

  of_query : (groups : KeptGroups) → IsTableOf asked groups → IsTableOf query groups
  of_query groups is = record { columns = is.columns ∙ ap length by.groups_same; kinds = is.kinds ∙ ap (map (λ agg. agg.kind)) by.aggs_same }

  pub of_asked : (groups : KeptGroups) → IsTableOf query groups → IsTableOf asked groups
  of_asked groups is = record { columns = is.columns ∙ ap length (sym by.groups_same); kinds = is.kinds ∙ ap (map (λ agg. agg.kind)) (sym by.aggs_same) }

  -- so the choices of a plan can be made
  pub given_filtered : (held : Option Files) → Can held → AreLoaded asked.conjuncts given
  given_filtered held can c on = given_loaded held can c (filtered_names asked c on)

  -- the head with as many other dictionaries is one of the segment where its file is the image of no rows
  opened_with : (ds : List (Option Distinct)) → length ds ≡ length head.dictionaries → (held : Option Files) → Can held → IfSome held (λ files. HasNoImage table files segment) → IsOpened table held segment (keeping ds head)
  opened_with ds long held can none = record {
    of = kept_head table head ds long can.opened.of;
    placed = can.opened.placed;
    image = image held none;
    ends = ends held can.opened.ends;
    spread = spread held can.opened.spread;
    opening = can.opened.opening;
    said = said held can.opened.said;
  }
    where
      image : (h : Option Files) → IfSome h (λ files. HasNoImage table files segment) → IsHeadIn table h segment (keeping ds head)
      image None none = tt
      image (Some files) none = λ rows has. absurd (none rows has)

      ends : (h : Option Files) → IfSome h (λ files. EndsInHead table files segment head) → IfSome h (λ files. EndsInHead table files segment (keeping ds head))
      ends None e = tt
      ends (Some files) e = record { front = e.front; has = e.has; end = e.end }

      spread : (h : Option Files) → IsSpreadIn table h segment head → IsSpreadIn table h segment (keeping ds head)
      spread None s = tt
      spread (Some files) s = s

      said : (h : Option Files) → IfSome h (λ files. heads.IsOpened table segment.name segment.file (bytes_of (Some files) segment.file) head) → IfSome h (λ files. heads.IsOpened table segment.name segment.file (bytes_of (Some files) segment.file) (keeping ds head))
      said None s = tt
      said (Some files) s = record { front = s.front; has = s.has; rows_are = s.rows_are; sections_are = s.sections_are; bounds_are = s.bounds_are }

  module _ (tells : HeadTells) (law : IdsAreAlike) where
    -- on the image of rows, the head with the dictionaries of these
    module _ (files : Files) (can : Can (Some files)) (rows : List (List Value)) (has : HasImage table files segment rows) where
      abbrev own : Seen
      own = keeping (ids.full query asked table head conjuncts counts by can.opened.of can.askable tells can.valid files rows (can.opened.image rows has) (can.tells rows has)) head

      own_head : IsHeadOf table own
      own_head = ids.full_head query asked table head conjuncts counts by can.opened.of can.askable tells can.valid files rows (can.opened.image rows has) (can.tells rows has)

      own_loaded : AreNamedLoaded query own
      own_loaded = ids.full_loaded query asked table head conjuncts counts by can.opened.of can.askable tells can.valid files rows (can.opened.image rows has) (can.tells rows has)

      own_image : IsOfImage table files rows own
      own_image = ids.full_image query asked table head conjuncts counts by can.opened.of can.askable tells can.valid files rows (can.opened.image rows has) (can.tells rows has)

      alike : IsAlike query asked table files rows own given
      alike =
          law query asked table files rows head
          (ids.full query asked table head conjuncts counts by can.opened.of can.askable tells can.valid files rows (can.opened.image rows has) (can.tells rows has))
          (ids_in counts head.dictionaries) can.valid own_head own_loaded own_image
          (ids.are_alike query asked table head conjuncts counts by can.opened.of can.askable tells can.valid files rows (can.opened.image rows has) (can.tells rows has))

      plan_so : (plan : ScanPlan) → plan.choices ≡ choices_for asked table given → Scan plan ≡ plan_over query table (ordered table.settings.sorted rows)
      plan_so plan choices =
          alike.plan_is plan can.query_valid can.kept
          (ids.full_some query asked table head conjuncts counts by can.opened.of can.askable tells can.valid files rows (can.opened.image rows has) (can.tells rows has)) can.unpicked choices

    pub adds_by_ids : (held : Option Files) → Can held → (old new : KeptGroups) → AddsImage asked table held given old new → AddsStored query table held segment old new
    adds_by_ids held can old new a = record {
      of_query = of_query new a.adds.of_query;
      most = a.adds.most;
      fits = λ n at_most. let small = rows_few table head can.opened.of in at_most_more (groups_in new) (n + head.rows) (n + 1048576) (omega (arith, small)) (a.adds.fits n at_most);
      told = told held can a;
    }
      where
        told : (h : Option Files) → Can h → AddsImage asked table h given old new → IfSome h (λ files. (rows : List (List Value)) → HasImage table files segment rows → AddsGroups query (selected_in query table rows) old new)
        told None can a = tt
        told (Some files) can a = λ rows has. (alike files can rows has).adds head.rows a.added old new a.read a.adds

    pub full_by_ids : (held : Option Files) → Can held → (old : KeptGroups) → IsImageOverfull asked table held given old → IsStoredOverfull query table held segment old
    full_by_ids None can old over = tt
    full_by_ids (Some files) can old over = λ rows has. (alike files can rows has).overfull over.0.0 old over.0.1 over.0.2

    no_image : (held : Option Files) → Can held → (part : Part) → IsBadIn asked table held given part → IfSome held (λ files. HasNoImage table files segment)
    no_image None can part bad = tt
    no_image (Some files) can part bad = λ rows has. (alike files can rows has).never_bad part bad

    pub bad_by_ids : (held : Option Files) → Can held → (part : Part) → IsBadIn asked table held given part → IsBadPart query table held segment part
    bad_by_ids held can part bad =
        let none = no_image held can part bad in
        let r = refused query asked table head conjuncts counts by can.opened.of held can.askable part bad in
        (inr (keeping r.ds head, opened_with r.ds r.long held can none, inl (can.unpicked, r.bad)), none)

    pub done_by_ids : (held : Option Files) → Can held → (plan : ScanPlan) (docs : ℕ) → plan.choices ≡ choices_for asked table given → (a b : Option (List Entry)) → AreDocs asked table held given docs → LogsScan asked table held given docs a b → IsDoneIn query table held segment (Scan plan) docs
    done_by_ids None can plan docs choices x y are logs = tt
    done_by_ids (Some files) can plan docs choices x y are logs = λ rows has.
        let os : List (List Value) = ordered table.settings.sorted rows in
        let is = alike files can rows has in
        let over : Scan plan ≡ plan_over query table os = plan_so files can rows has plan choices in
        let left = (is.docs docs x y are logs).told rows (own_image files can rows has) in
        let same : choices_for query table (own files can rows has) ≡ plan.choices = sym is.choices_same ∙ sym choices in
        (over, left ∙ ap (λ cs. length (rows_left query cs os)) same ∙ ap (docs_by query table os) over)

    module _ (read : ImagesRead) (leave : ImagesLeave) (plan : ScanPlan) (choices : plan.choices ≡ choices_for asked table given) where
      pub reads_by_ids : (held : Option Files) → Can held → (docs : ℕ) (a b : Option (List Entry)) → LogsScan asked table held given docs a b → LogsOne (ReadsPlanned query table true) table held segment a b
      reads_by_ids None can docs a b logs = λ before entries was now. tt
      reads_by_ids (Some files) can docs a b logs = λ before entries was now rows has.
          let os : List (List Value) = ordered table.settings.sorted rows in
          let is = alike files can rows has in
          let i = own_image files can rows has in
          subst (ReadsBy query table segment os true entries) (plan_so files can rows has plan choices)
          (image_scan read leave query table segment (own files can rows has) rows can.valid (own_head files can rows has) (own_loaded files can rows has) (can.opened.spread rows has)
          (tells table i.name i.file rows i.whole (own files can rows has) can.valid i.named i.can i.is_head i.part)
          files i plan (choices ∙ is.choices_same) docs a b (is.logs docs a b logs) before entries was now)

      pub given_up_by_ids : (held : Option Files) → Can held → (a b : Option (List Entry)) → LogsScanPartly asked table held given a b → LogsOne (ReadsPlanned query table false) table held segment a b
      given_up_by_ids None can a b logs = λ before entries was now. tt
      given_up_by_ids (Some files) can a b logs = λ before entries was now rows has.
          let os : List (List Value) = ordered table.settings.sorted rows in
          let is = alike files can rows has in
          let i = own_image files can rows has in
          subst (ReadsBy query table segment os false entries) (plan_so files can rows has plan choices)
          (image_scan_partly read leave query table segment (own files can rows has) rows can.valid (own_head files can rows has) (own_loaded files can rows has) (can.opened.spread rows has)
          (tells table i.name i.file rows i.whole (own files can rows has) can.valid i.named i.can i.is_head i.part)
          files i plan (choices ∙ is.choices_same) a b (is.logs_partly a b logs) before entries was now)

-- where memory was refused before anything was read
pub adds_memory : {A : Type 0} (query : BoundQuery) (table : Table) (segment : Stored) (groups : KeptGroups) → DocsAreBounded → IsValidTable table → (a : outside.Seen) (r : Result A EngineFault) → r ≡ Err engine.NoMemory → AddsSegment query table segment groups groups a a r
adds_memory query table segment groups law valid a r is = record {
  added = fault_ok _ r engine.NoMemory _ is;
  opens = fault_ok _ r engine.NoMemory _ is;
  full = λ e. absurd (fault_not _ r engine.NoMemory engine.TooManyGroups memory_not_full is e);
  filled = λ e. absurd (fault_not _ r engine.NoMemory engine.TooManyGroups memory_not_full is e);
  bad = λ part e. absurd (fault_not _ r engine.NoMemory (engine.NotASegment part) (memory_not_bad part) is e);
  only_reads = reads_unread _ a (λ e. fault_not _ r engine.NoMemory engine.ReadFault memory_not_read is e);
  log = logs_none (λ other. other ≡ segment.file) a.log;
  reads = fault_ok _ r engine.NoMemory _ is;
  reads_of_fault = on-err r (LogsOne (ReadsPlanned query table false) table a.held segment a.log a.log)
      (given_up query table segment law valid a.held a.log a.log (none_one query table segment a.held a.log));
}
