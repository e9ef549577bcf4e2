use Rattle.std.proofs.Common.{◌≡◌, ◌∙◌, ◌<◌, ◌∷◌, [], ℕ, List, length, map, Err, inl, inr, sym, ap, subst, arith}
use Rattle.outside.specs.Seen as outside
use Rattle.outside.specs.Seen.{seen}
use Rattle.group_table.specs.Kept.{KeptGroups}
use Rattle.group_table.specs.Pooled.{in_pool}
use Rattle.group_table.proofs.SlotFrames.{stays_same}
use Rattle.segment_head.specs.declared.fault.EngineFault.TheVariants as engine
use Rattle.segment_scan.specs.Images.{AddsImage, AreDocs, IsBadIn, IsImageOverfull, LogsScan, LogsScanPartly, choices_for}
use Rattle.segment_scan.specs.Scans.{IsScannable}
use Rattle.segment_opening.specs.Found.{count_of, with_counts}
use Rattle.segment_plan.specs.Choices.{choice_of}
use Rattle.segment_plan.specs.Matched.{AreLoaded}
use Rattle.segment_plan.specs.declared.plans.ScanPlan.{ScanPlan}
use Rattle.segment_scan.proofs.ScanLogs.{scan_in_file, scan_partly}
use Rattle.query_executor.proofs.EndLemmas.{fault_if, gives_fault, no_fault, own_fault, reads_done, reads_failed}
use Rattle.query_executor.proofs.SegmentLemmas.{room}
use Rattle.query_executor.proofs.IdsLemmas.{adds_by_ids, adds_memory, bad_by_ids, given_filtered, done_by_ids, full_by_ids, given_head, given_loaded, given_up_by_ids, of_asked, reads_by_ids}
use Rattle.query_executor.proofs.by_ids.add_by_ids.Goals as goal

pub keep_counted-requires : goal.keep_counted-requires
keep_counted-requires g c =
    let can = c.requires.can in
    let slots = can.opened.of.has.slots in
    let each = can.askable.each in
    let few = can.valid.schema.at_most in
    let long = ap length c.as_slice.ensures.value in
    record {
      each = long ∙ each ∙ sym slots;
      at_most = omega (arith, long, each, few);
      few = λ column n is. can.askable.few column n (ap (λ xs. count_of xs column) (sym c.as_slice.ensures.value) ∙ is);
    }

pub choices-requires : goal.choices-requires
choices-requires g c =
    let query = c.args.asked.now.query.now in
    let table = c.args.asked.now.table.now in
    let segment = c.args.asked.now.segment.now in
    let head = c.args.head.now in
    let found = c.args.found in
    let conjuncts = found.conjuncts in
    let counts = found.counts.items in
    let a : outside.Seen = seen g.S.Shelf c.args.shelf.now in
    let can = c.requires.can in
    let asked = c.in_ok-by_ids.by_ids in
    let by = c.in_ok-by_ids.ensures in
    let kept = (c.in_ok-keep_counted.ensures ∙ ap (λ xs. with_counts xs head) c.as_slice.ensures.value) in
    record {
      loaded = subst (λ h. AreLoaded c.as_slice-conjuncts.result.now h) (sym kept)
          (subst (λ xs. AreLoaded xs (with_counts counts head)) (sym c.as_slice-conjuncts.ensures) (given_filtered query asked table segment head conjuncts counts by a.held can));
    }

pub scan_segment-requires : goal.scan_segment-requires
scan_segment-requires g c =
    let query = c.args.asked.now.query.now in
    let table = c.args.asked.now.table.now in
    let segment = c.args.asked.now.segment.now in
    let head = c.args.head.now in
    let found = c.args.found in
    let conjuncts = found.conjuncts in
    let counts = found.counts.items in
    let a : outside.Seen = seen g.S.Shelf c.args.shelf.now in
    let can = c.requires.can in
    let asked = c.in_ok-by_ids.by_ids in
    let by = c.in_ok-by_ids.ensures in
    let plan : ScanPlan = record { choices = c.in_ok-choices.choices } in
    let kept = (c.in_ok-keep_counted.ensures ∙ ap (λ xs. with_counts xs head) c.as_slice.ensures.value) in
    let choices : plan.choices ≡ choices_for asked table (with_counts counts head) =
    subst (λ h. plan.choices ≡ map (choice_of table.settings h) asked.conjuncts) kept
    (subst (λ xs. plan.choices ≡ map (choice_of table.settings c.keep_counted.new.head) xs) c.as_slice-conjuncts.ensures c.in_ok-choices.ensures) in
    let groups : KeptGroups = in_pool c.args.groups.now c.args.pool.now in
    record {
      pooled = c.requires.pooled;
      scans = subst (λ h. IsScannable asked table h h.rows groups) (sym kept) (record {
        valid = can.valid;
        of_table = given_head query asked table segment head conjuncts counts by a.held can;
        loaded = given_loaded query asked table segment head conjuncts counts by a.held can;
        of_query = of_asked query asked table segment head conjuncts counts by groups c.requires.room.of_query;
        fits = room table head groups can.opened.of c.requires.room.fits;
      });
      planned = subst (λ h. plan.choices ≡ choices_for asked table h) (sym kept) choices;
    }

pub returns-in_err-keep_counted : goal.returns-in_err-keep_counted
returns-in_err-keep_counted g c =
    let query = c.args.asked.now.query.now in
    let table = c.args.asked.now.table.now in
    let segment = c.args.asked.now.segment.now in
    let head = c.args.head.now in
    let found = c.args.found in
    let conjuncts = found.conjuncts in
    let counts = found.counts.items in
    let a : outside.Seen = seen g.S.Shelf c.args.shelf.now in
    let can = c.requires.can in
    let r = c.from_residual.result in
    let is = gives_fault _ r engine.NoMemory c.from_residual.ensures.1 in
    record {
      stays = stays_same c.args.groups.now c.args.pool.now c.requires.pooled;
      adds = adds_memory query table segment (in_pool c.args.groups.now c.args.pool.now) c.docs_bound_law.ensures.bound can.valid a r is;
      done = fault_if _ r engine.NoMemory _ is;
    }

pub returns-in_err-by_ids : goal.returns-in_err-by_ids
returns-in_err-by_ids g c =
    let query = c.args.asked.now.query.now in
    let table = c.args.asked.now.table.now in
    let segment = c.args.asked.now.segment.now in
    let head = c.args.head.now in
    let found = c.args.found in
    let conjuncts = found.conjuncts in
    let counts = found.counts.items in
    let a : outside.Seen = seen g.S.Shelf c.args.shelf.now in
    let can = c.requires.can in
    let r = c.from_residual-in_err-by_ids.result in
    let is = gives_fault _ r engine.NoMemory c.from_residual-in_err-by_ids.ensures.1 in
    record {
      stays = stays_same c.args.groups.now c.args.pool.now c.requires.pooled;
      adds = adds_memory query table segment (in_pool c.args.groups.now c.args.pool.now) c.docs_bound_law.ensures.bound can.valid a r is;
      done = fault_if _ r engine.NoMemory _ is;
    }

pub returns-in_err-choices : goal.returns-in_err-choices
returns-in_err-choices g c =
    let query = c.args.asked.now.query.now in
    let table = c.args.asked.now.table.now in
    let segment = c.args.asked.now.segment.now in
    let head = c.args.head.now in
    let found = c.args.found in
    let conjuncts = found.conjuncts in
    let counts = found.counts.items in
    let a : outside.Seen = seen g.S.Shelf c.args.shelf.now in
    let can = c.requires.can in
    let r = c.from_residual-in_err-choices.result in
    let is = gives_fault _ r engine.NoMemory c.from_residual-in_err-choices.ensures.1 in
    record {
      stays = stays_same c.args.groups.now c.args.pool.now c.requires.pooled;
      adds = adds_memory query table segment (in_pool c.args.groups.now c.args.pool.now) c.docs_bound_law.ensures.bound can.valid a r is;
      done = fault_if _ r engine.NoMemory _ is;
    }

pub returns-in-Ok : goal.returns-in-Ok
returns-in-Ok g c =
    let query = c.args.asked.now.query.now in
    let table = c.args.asked.now.table.now in
    let segment = c.args.asked.now.segment.now in
    let head = c.args.head.now in
    let found = c.args.found in
    let conjuncts = found.conjuncts in
    let counts = found.counts.items in
    let a : outside.Seen = seen g.S.Shelf c.args.shelf.now in
    let can = c.requires.can in
    let asked = c.in_ok-by_ids.by_ids in
    let by = c.in_ok-by_ids.ensures in
    let plan : ScanPlan = record { choices = c.in_ok-choices.choices } in
    let kept = (c.in_ok-keep_counted.ensures ∙ ap (λ xs. with_counts xs head) c.as_slice.ensures.value) in
    let choices : plan.choices ≡ choices_for asked table (with_counts counts head) =
    subst (λ h. plan.choices ≡ map (choice_of table.settings h) asked.conjuncts) kept
    (subst (λ xs. plan.choices ≡ map (choice_of table.settings c.keep_counted.new.head) xs) c.as_slice-conjuncts.ensures c.in_ok-choices.ensures) in
    let groups : KeptGroups = in_pool c.args.groups.now c.args.pool.now in
    let b : outside.Seen = seen g.S.Shelf c.scan_segment.new.shelf in
    let new : KeptGroups = in_pool c.scan_segment.new.groups c.scan_segment.new.pool in
    let docs = c.in-Ok.docs in
    let logs = subst (λ h. LogsScan asked table a.held h docs a.log b.log) kept c.in-Ok.ensures.reads.log in
    record {
      stays = c.scan_segment.ensures.stays;
      adds = record {
        added = adds_by_ids query asked table segment head conjuncts counts by c.head_tells_law.ensures c.ids_law.ensures a.held can groups new (subst (λ h. AddsImage asked table a.held h groups new) kept c.in-Ok.ensures.ok);
        opens = can.opened.opening;
        full = λ e. absurd (no_fault _ _ engine.TooManyGroups e);
        filled = λ e. absurd (no_fault _ _ engine.TooManyGroups e);
        bad = λ part e. absurd (no_fault _ _ (engine.NotASegment part) e);
        only_reads = reads_done _ _ docs _ engine.ReadFault a b c.in-Ok.ensures.reads.only_reads;
        log = scan_in_file asked table _ segment.file can.opened.placed a.held (given_head query asked table segment head conjuncts counts by a.held can) (given_loaded query asked table segment head conjuncts counts by a.held can) docs a.log b.log logs;
        reads = reads_by_ids query asked table segment head conjuncts counts by c.head_tells_law.ensures c.ids_law.ensures c.image_law.ensures c.index_law.ensures plan choices a.held can docs a.log b.log logs;
        reads_of_fault = tt;
      };
      done = done_by_ids query asked table segment head conjuncts counts by c.head_tells_law.ensures c.ids_law.ensures a.held can plan docs choices a.log b.log (subst (λ h. AreDocs asked table a.held h docs) kept c.in-Ok.ensures.count) logs;
    }

pub returns : goal.returns
returns g c =
    let query = c.args.asked.now.query.now in
    let table = c.args.asked.now.table.now in
    let segment = c.args.asked.now.segment.now in
    let head = c.args.head.now in
    let found = c.args.found in
    let conjuncts = found.conjuncts in
    let counts = found.counts.items in
    let a : outside.Seen = seen g.S.Shelf c.args.shelf.now in
    let can = c.requires.can in
    let asked = c.in_ok-by_ids.by_ids in
    let by = c.in_ok-by_ids.ensures in
    let plan : ScanPlan = record { choices = c.in_ok-choices.choices } in
    let kept = (c.in_ok-keep_counted.ensures ∙ ap (λ xs. with_counts xs head) c.as_slice.ensures.value) in
    let choices : plan.choices ≡ choices_for asked table (with_counts counts head) =
    subst (λ h. plan.choices ≡ map (choice_of table.settings h) asked.conjuncts) kept
    (subst (λ xs. plan.choices ≡ map (choice_of table.settings c.keep_counted.new.head) xs) c.as_slice-conjuncts.ensures c.in_ok-choices.ensures) in
    let groups : KeptGroups = in_pool c.args.groups.now c.args.pool.now in
    let b : outside.Seen = seen g.S.Shelf c.scan_segment.new.shelf in
    let fault = c.in-Err.fault in
    let logs = subst (λ h. LogsScanPartly asked table a.held h a.log b.log) kept c.in-Err.ensures.reads.log_of_fault in
    record {
      stays = c.scan_segment.ensures.stays;
      adds = record {
        added = tt;
        opens = tt;
        full = λ e. full_by_ids query asked table segment head conjuncts counts by c.head_tells_law.ensures c.ids_law.ensures a.held can groups
            (subst (λ h. IsImageOverfull asked table a.held h groups) kept (c.in-Err.ensures.full (ap Err (own_fault _ fault engine.TooManyGroups e))));
        filled = λ e. c.in-Err.ensures.filled (ap Err (own_fault _ fault engine.TooManyGroups e));
        bad = λ part e. bad_by_ids query asked table segment head conjuncts counts by c.head_tells_law.ensures c.ids_law.ensures a.held can part
            (subst (λ h. IsBadIn asked table a.held h part) kept (c.in-Err.ensures.bad part (ap Err (own_fault _ fault (engine.NotASegment part) e))));
        only_reads = reads_failed _ _ fault engine.ReadFault a b c.in-Err.ensures.reads.only_reads;
        log = scan_partly asked table _ segment.file can.opened.placed a.held (given_head query asked table segment head conjuncts counts by a.held can) (given_loaded query asked table segment head conjuncts counts by a.held can) a.log b.log logs;
        reads = tt;
        reads_of_fault = given_up_by_ids query asked table segment head conjuncts counts by c.head_tells_law.ensures c.ids_law.ensures c.image_law.ensures c.index_law.ensures plan choices a.held can a.log b.log logs;
      };
      done = tt;
    }
