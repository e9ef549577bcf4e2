use Rattle.std.proofs.Common.{◌≡◌, ◌∙◌, ℕ, false, List, Some, Err, inl, inr, refl, ap}
use Rattle.outside.specs.Seen as outside
use Rattle.outside.specs.Seen.{seen}
use Rattle.outside.specs.Files.{Files}
use Rattle.outside.proofs.ReadLemmas.{on-err}
use Rattle.values.specs.declared.value.Value.{Value}
use Rattle.table_schema.specs.declared.query.BoundQuery.{BoundQuery}
use Rattle.table_schema.specs.declared.table.Table.{Table}
use Rattle.table_schema.specs.ValidQuery.{IsValidQuery}
use Rattle.table_schema.specs.ValidTable.{IsValidTable}
use Rattle.segment_head.specs.Heads.{Seen}
use Rattle.segment_file.specs.Ordered.{ordered}
use Rattle.segment_plan.specs.declared.plans.ScanPlan.{ScanPlan}
use Rattle.segment_plan.specs.Laws.{HeadTells, PlanIsOver, TellsOf}
use Rattle.segment_plan.specs.Matched.{AreLoaded}
use Rattle.segment_plan.specs.Plan.{plan_of}
use Rattle.segment_plan.specs.Planned.{plan_over}
use Rattle.segment_reads.specs.Reads.{LogsOne, ReadsPlanned}
use Rattle.segment_head.specs.Stored.{HasImage}
use Rattle.segment_reads.specs.Looked.{IsDoneIn}
use Rattle.segment_opening.specs.Opened.{IsHeadIn}
use Rattle.query_executor.proofs.OneReads.{given_up, none_one, quiet_one, scan_given_up, scan_one, tree_given_up, tree_one}
use Rattle.segment_plan.specs.declared.plans.SegmentPlan.TheVariants.{Empty, Pruned, Scan, StarTree}
use Rattle.query_executor.proofs.DoneLemmas.{done_so, none_done, scan_looked, tree_looked}
use Rattle.query_executor.proofs.EndLemmas.{fault_if, fault_not, fault_ok, gives_fault, memory_not_bad, memory_not_full, memory_not_read, no_fault, own_fault, reads_done, reads_failed, reads_unread}
use Rattle.segment_reads.proofs.LogLemmas.{logs_none, reads_as}
use Rattle.segment_head.specs.declared.fault.EngineFault.TheVariants as engine
use Rattle.query_executor.proofs.PlanLemmas.{is_empty_so, is_pruned_so, picked_within, planned_as, scan_planned, scan_unpicked, tree_planned}
use Rattle.star_answer.proofs.SegmentSteps.{picked_eligible}
use Rattle.star_answer.proofs.TreeLogs.{answer_in_file, answer_partly}
use Rattle.segment_scan.proofs.ScanLogs.{scan_in_file, scan_partly}
use Rattle.query_executor.proofs.SegmentLemmas.{adds_answered, adds_none, adds_scanned, bad_answered, bad_scanned, overfull_answered, overfull_scanned, room}
use Rattle.query_executor.proofs.adding.add_planned.Goals as goal
use Rattle.group_table.specs.Pooled.{in_pool}
use Rattle.group_table.proofs.SlotFrames.{stays_same}
use Rattle.segment_head.specs.declared.stored.Stored.{Stored}

scan_plan : (query : BoundQuery) (table : Table) → HeadTells → PlanIsOver → IsValidTable table → IsValidQuery table query → (files : Files) (segment : Stored) (head : Seen) (plan : ScanPlan) → Scan plan ≡ plan_of query table head → AreLoaded query.conjuncts head → IsHeadIn table (Some files) segment head → (rows : List (List Value)) → HasImage table files segment rows
    → TellsOf table (ordered table.settings.sorted rows) head × (Scan plan ≡ plan_over query table (ordered table.settings.sorted rows))
scan_plan query table tells law valid query_valid files segment head plan is loaded in_file rows has =
    let i = in_file rows has in
    let told = tells table i.name i.file rows i.whole head valid i.named i.can i.is_head i.part in
    (told, is ∙ law query table (ordered table.settings.sorted rows) head query_valid told (inr loaded))

tree_plan : (query : BoundQuery) (table : Table) → HeadTells → PlanIsOver → IsValidTable table → IsValidQuery table query → (files : Files) (segment : Stored) (head : Seen) (t : ℕ) → StarTree t ≡ plan_of query table head → AreLoaded query.conjuncts head → IsHeadIn table (Some files) segment head → (rows : List (List Value)) → HasImage table files segment rows
    → StarTree t ≡ plan_over query table (ordered table.settings.sorted rows)
tree_plan query table tells law valid query_valid files segment head t is loaded in_file rows has =
    let i = in_file rows has in
    is ∙ law query table (ordered table.settings.sorted rows) head query_valid (tells table i.name i.file rows i.whole head valid i.named i.can i.is_head i.part) (inr loaded)

pub plan-requires : goal.plan-requires
plan-requires g c = record { valid = c.requires.loaded.asked.valid; loaded = c.requires.loaded.filtered }

pub scan_segment-requires : goal.scan_segment-requires
scan_segment-requires g c =
    let query = c.args.query.now in
    let table = c.args.table.now in
    let head = c.args.head.now in
    let planned = planned_as query table head c.in_ok-plan.field-0 (Scan c.in-Scan.plan) c.in-Scan.is c.in_ok-plan.ensures in
    record {
      pooled = c.requires.pooled;
      scans = record {
        valid = c.requires.loaded.asked.valid;
        of_table = c.requires.loaded.asked.of_table;
        loaded = c.requires.loaded.named (scan_unpicked query table head c.in-Scan.plan planned);
        of_query = c.requires.room.of_query;
        fits = room table head (in_pool c.args.groups.now c.args.pool.now) c.requires.loaded.asked.of_table c.requires.room.fits;
      };
      planned = scan_planned query table head c.in-Scan.plan planned;
    }

pub answer_segment-requires-clause-room : goal.answer_segment-requires-clause-room
answer_segment-requires-clause-room g c =
    let query = c.args.query.now in
    let table = c.args.table.now in
    let head = c.args.head.now in
    let tree = c.in-StarTree.tree in
    let planned = planned_as query table head c.in_ok-plan.field-0 (StarTree tree) c.in-StarTree.is c.in_ok-plan.ensures in
    record {
      valid = c.requires.loaded.asked.valid;
      of_table = c.requires.loaded.asked.of_table;
      query_valid = c.requires.loaded.asked.query;
      eligible = picked_eligible query table.settings.trees tree (tree_planned query table head tree planned);
      loaded = c.requires.loaded.filtered;
      groups_loaded = c.requires.loaded.grouped;
      of_query = c.requires.room.of_query;
      fits = room table head (in_pool c.args.groups.now c.args.pool.now) c.requires.loaded.asked.of_table c.requires.room.fits;
    }

pub returns-in_err-plan : goal.returns-in_err-plan
returns-in_err-plan g c =
    let query = c.args.query.now in
    let table = c.args.table.now in
    let r = c.from_residual.result in
    let a : outside.Seen = seen g.S.Shelf c.args.shelf.now in
    let is = gives_fault _ r engine.NoMemory c.from_residual.ensures.1 in
    record {
      stays = stays_same c.args.groups.now c.args.pool.now c.requires.pooled;
      adds = λ segment o. record {
        added = fault_ok _ r engine.NoMemory _ is;
        opens = fault_ok _ r engine.NoMemory _ is;
        full = λ e. absurd (fault_not _ r engine.NoMemory engine.TooManyGroups memory_not_full is e);
        filled = λ e. absurd (fault_not _ r engine.NoMemory engine.TooManyGroups memory_not_full is e);
        bad = λ part e. absurd (fault_not _ r engine.NoMemory (engine.NotASegment part) (memory_not_bad part) is e);
        only_reads = reads_unread _ a (λ e. fault_not _ r engine.NoMemory engine.ReadFault memory_not_read is e);
        log = logs_none (λ other. other ≡ segment.file) a.log;
        reads = fault_ok _ r engine.NoMemory _ is;
        reads_of_fault = on-err r (LogsOne (ReadsPlanned query table false) table a.held segment a.log a.log)
            (given_up query table segment c.docs_bound_law.ensures.bound c.requires.loaded.asked.valid a.held a.log a.log (none_one query table segment a.held a.log));
      };
      done = fault_if _ r engine.NoMemory _ is;
    }

pub returns-in-Ok : goal.returns-in-Ok
returns-in-Ok g c =
    let query = c.args.query.now in
    let table = c.args.table.now in
    let head = c.args.head.now in
    let plan = c.in-Scan.plan in
    let a : outside.Seen = seen g.S.Shelf c.args.shelf.now in
    let b : outside.Seen = seen g.S.Shelf c.scan_segment.new.shelf in
    let planned = planned_as query table head c.in_ok-plan.field-0 (Scan c.in-Scan.plan) c.in-Scan.is c.in_ok-plan.ensures in
    let docs = c.in-Ok.docs in
    let named = c.requires.loaded.named (scan_unpicked query table head plan planned) in
    let chosen = scan_planned query table head plan planned in
    record {
      stays = c.scan_segment.ensures.stays;
      adds = λ segment o. let is = o.image in let spread = o.spread in let inside = o.placed in record {
        added = adds_scanned query table segment head a.held (in_pool c.args.groups.now c.args.pool.now) (in_pool c.scan_segment.new.groups c.scan_segment.new.pool) c.requires.loaded.asked.of_table c.in-Ok.ensures.ok is;
        opens = o.opening;
        full = λ e. absurd (no_fault _ _ engine.TooManyGroups e);
        filled = λ e. absurd (no_fault _ _ engine.TooManyGroups e);
        bad = λ part e. absurd (no_fault _ _ (engine.NotASegment part) e);
        only_reads = reads_done _ _ docs _ engine.ReadFault a b c.in-Ok.ensures.reads.only_reads;
        log = scan_in_file query table head segment.file inside a.held c.requires.loaded.asked.of_table named _ a.log b.log c.in-Ok.ensures.reads.log;
        reads = scan_one query table segment c.image_law.ensures c.index_law.ensures c.requires.loaded.asked.valid head c.requires.loaded.asked.of_table named plan chosen
            (λ files rows has in_file. scan_plan query table c.head_tells_law.ensures c.plan_over_law.ensures c.requires.loaded.asked.valid c.requires.loaded.asked.query files segment head plan planned c.requires.loaded.filtered in_file rows has)
            a.held docs a.log b.log is spread c.in-Ok.ensures.reads.log;
        reads_of_fault = tt;
      };
      done = λ segment is.
          done_so query table c.head_tells_law.ensures c.plan_over_law.ensures c.requires.loaded.asked.valid c.requires.loaded.asked.query a.held segment head (Scan plan) docs planned (inr c.requires.loaded.filtered)
          (scan_looked query table a.held head plan docs chosen c.in-Ok.ensures.count) is;
    }

pub returns-in-Err : goal.returns-in-Err
returns-in-Err g c =
    let query = c.args.query.now in
    let table = c.args.table.now in
    let head = c.args.head.now in
    let plan = c.in-Scan.plan in
    let a : outside.Seen = seen g.S.Shelf c.args.shelf.now in
    let b : outside.Seen = seen g.S.Shelf c.scan_segment.new.shelf in
    let planned = planned_as query table head c.in_ok-plan.field-0 (Scan c.in-Scan.plan) c.in-Scan.is c.in_ok-plan.ensures in
    let fault = c.in-Err.fault in
    let named = c.requires.loaded.named (scan_unpicked query table head plan planned) in
    let chosen = scan_planned query table head plan planned in
    record {
      stays = c.scan_segment.ensures.stays;
      adds = λ segment o. let is = o.image in let spread = o.spread in let inside = o.placed in record {
        added = tt;
        opens = tt;
        full = λ e. overfull_scanned query table segment head a.held (in_pool c.args.groups.now c.args.pool.now) (c.in-Err.ensures.full (ap Err (own_fault _ fault engine.TooManyGroups e))) is;
        filled = λ e. c.in-Err.ensures.filled (ap Err (own_fault _ fault engine.TooManyGroups e));
        bad = λ part e.
            let bad = c.in-Err.ensures.bad part (ap Err (own_fault _ fault (engine.NotASegment part) e)) in
            (inr (head, o, inl (scan_unpicked query table head plan planned, bad)), bad_scanned query table segment head a.held part bad is);
        only_reads = reads_failed _ _ fault engine.ReadFault a b c.in-Err.ensures.reads.only_reads;
        log = scan_partly query table head segment.file inside a.held c.requires.loaded.asked.of_table named a.log b.log c.in-Err.ensures.reads.log_of_fault;
        reads = tt;
        reads_of_fault = scan_given_up query table segment c.image_law.ensures c.index_law.ensures c.requires.loaded.asked.valid head c.requires.loaded.asked.of_table named plan chosen
            (λ files rows has in_file. scan_plan query table c.head_tells_law.ensures c.plan_over_law.ensures c.requires.loaded.asked.valid c.requires.loaded.asked.query files segment head plan planned c.requires.loaded.filtered in_file rows has)
            a.held a.log b.log is spread c.in-Err.ensures.reads.log_of_fault;
      };
      done = tt;
    }

pub returns-in-Pruned : goal.returns-in-Pruned
returns-in-Pruned g c =
    let query = c.args.query.now in
    let table = c.args.table.now in
    let head = c.args.head.now in
    let a : outside.Seen = seen g.S.Shelf c.args.shelf.now in
    let planned = planned_as query table head c.in_ok-plan.field-0 Pruned c.in-Pruned.is c.in_ok-plan.ensures in
    let all : (segment : Stored) → IsHeadIn table a.held segment head → IsDoneIn query table a.held segment c.nothing.result.plan c.nothing.result.docs =
    λ segment is. none_done query table c.head_tells_law.ensures c.plan_over_law.ensures c.requires.loaded.asked.valid c.requires.loaded.asked.query a.held segment head c.nothing.result.plan Pruned c.nothing.result.docs c.nothing.ensures.plan planned (inr c.requires.loaded.filtered) (λ rows. refl) c.nothing.ensures.none is in
    record {
      stays = stays_same c.args.groups.now c.args.pool.now c.requires.pooled;
      adds = λ segment o. let is = o.image in let spread = o.spread in let inside = o.placed in record {
        added = adds_none query table segment head c.head_tells_law.ensures c.requires.loaded.asked.valid a.held (in_pool c.args.groups.now c.args.pool.now) c.requires.room.of_query (λ rows tells. c.pruned_law.ensures query table rows head tells (is_pruned_so query table head planned)) is;
        opens = o.opening;
        full = λ e. absurd (no_fault _ _ engine.TooManyGroups e);
        filled = λ e. absurd (no_fault _ _ engine.TooManyGroups e);
        bad = λ part e. absurd (no_fault _ _ (engine.NotASegment part) e);
        only_reads = reads_unread _ a (λ e. no_fault _ _ engine.ReadFault e);
        log = logs_none (λ other. other ≡ segment.file) a.log;
        reads = quiet_one query table segment a.held c.nothing.result.plan c.nothing.result.docs a.log a.log (all segment is) (inl c.nothing.ensures.plan) (none_one query table segment a.held a.log);
        reads_of_fault = tt;
      };
      done = all;
    }

pub returns-in-Empty : goal.returns-in-Empty
returns-in-Empty g c =
    let query = c.args.query.now in
    let table = c.args.table.now in
    let head = c.args.head.now in
    let a : outside.Seen = seen g.S.Shelf c.args.shelf.now in
    let planned = planned_as query table head c.in_ok-plan.field-0 Empty c.in-Empty.is c.in_ok-plan.ensures in
    let all : (segment : Stored) → IsHeadIn table a.held segment head → IsDoneIn query table a.held segment c.nothing-in-Empty.result.plan c.nothing-in-Empty.result.docs =
    λ segment is. none_done query table c.head_tells_law.ensures c.plan_over_law.ensures c.requires.loaded.asked.valid c.requires.loaded.asked.query a.held segment head c.nothing-in-Empty.result.plan Empty c.nothing-in-Empty.result.docs c.nothing-in-Empty.ensures.plan planned (inr c.requires.loaded.filtered) (λ rows. refl) c.nothing-in-Empty.ensures.none is in
    record {
      stays = stays_same c.args.groups.now c.args.pool.now c.requires.pooled;
      adds = λ segment o. let is = o.image in let spread = o.spread in let inside = o.placed in record {
        added = adds_none query table segment head c.head_tells_law.ensures c.requires.loaded.asked.valid a.held (in_pool c.args.groups.now c.args.pool.now) c.requires.room.of_query (λ rows tells. c.empty_law.ensures query.conjuncts table rows head tells c.requires.loaded.filtered (is_empty_so query table head planned)) is;
        opens = o.opening;
        full = λ e. absurd (no_fault _ _ engine.TooManyGroups e);
        filled = λ e. absurd (no_fault _ _ engine.TooManyGroups e);
        bad = λ part e. absurd (no_fault _ _ (engine.NotASegment part) e);
        only_reads = reads_unread _ a (λ e. no_fault _ _ engine.ReadFault e);
        log = logs_none (λ other. other ≡ segment.file) a.log;
        reads = quiet_one query table segment a.held c.nothing-in-Empty.result.plan c.nothing-in-Empty.result.docs a.log a.log (all segment is) (inr c.nothing-in-Empty.ensures.plan) (none_one query table segment a.held a.log);
        reads_of_fault = tt;
      };
      done = all;
    }

pub returns-in-Ok-answer_segment : goal.returns-in-Ok-answer_segment
returns-in-Ok-answer_segment g c =
    let query = c.args.query.now in
    let table = c.args.table.now in
    let head = c.args.head.now in
    let tree = c.in-StarTree.tree in
    let a : outside.Seen = seen g.S.Shelf c.args.shelf.now in
    let b : outside.Seen = seen g.S.Shelf c.answer_segment.new.shelf in
    let planned = planned_as query table head c.in_ok-plan.field-0 (StarTree tree) c.in-StarTree.is c.in_ok-plan.ensures in
    let within = picked_within query table.settings.trees tree (tree_planned query table head tree planned) in
    let docs = c.in-Ok-answer_segment.read in
    record {
      stays = c.answer_segment.ensures.stays;
      adds = λ segment o. let is = o.image in let spread = o.spread in let inside = o.placed in record {
        added = adds_answered query table segment head a.held (in_pool c.args.groups.now c.args.pool.now) (in_pool c.answer_segment.new.groups c.answer_segment.new.pool) c.requires.loaded.asked.of_table c.in-Ok-answer_segment.ensures.ok is;
        opens = o.opening;
        full = λ e. absurd (no_fault _ _ engine.TooManyGroups e);
        filled = λ e. absurd (no_fault _ _ engine.TooManyGroups e);
        bad = λ part e. absurd (no_fault _ _ (engine.NotASegment part) e);
        only_reads = reads_as a b c.in-Ok-answer_segment.ensures.only_reads (λ e. absurd (no_fault _ _ engine.ReadFault e)) (λ e. absurd (no_fault _ docs engine.ReadFault e));
        log = answer_in_file table c.requires.loaded.asked.valid head c.requires.loaded.asked.of_table segment.file inside query a.held tree docs a.log b.log within c.in-Ok-answer_segment.ensures.log;
        reads = tree_one query table segment c.docs_bound_law.ensures.bound c.requires.loaded.asked.valid head c.requires.loaded.asked.of_table tree within a.held docs a.log b.log
            (λ files rows has in_file. tree_plan query table c.head_tells_law.ensures c.plan_over_law.ensures c.requires.loaded.asked.valid c.requires.loaded.asked.query files segment head tree planned c.requires.loaded.filtered in_file rows has) is spread c.in-Ok-answer_segment.ensures.log;
        reads_of_fault = tt;
      };
      done = λ segment is.
          done_so query table c.head_tells_law.ensures c.plan_over_law.ensures c.requires.loaded.asked.valid c.requires.loaded.asked.query a.held segment head (StarTree tree) docs planned (inr c.requires.loaded.filtered)
          (tree_looked query table a.held head tree docs c.in-Ok-answer_segment.ensures.count.told) is;
    }

pub returns-in-Err-answer_segment : goal.returns-in-Err-answer_segment
returns-in-Err-answer_segment g c =
    let query = c.args.query.now in
    let table = c.args.table.now in
    let head = c.args.head.now in
    let tree = c.in-StarTree.tree in
    let a : outside.Seen = seen g.S.Shelf c.args.shelf.now in
    let b : outside.Seen = seen g.S.Shelf c.answer_segment.new.shelf in
    let planned = planned_as query table head c.in_ok-plan.field-0 (StarTree tree) c.in-StarTree.is c.in_ok-plan.ensures in
    let within = picked_within query table.settings.trees tree (tree_planned query table head tree planned) in
    let fault = c.in-Err-answer_segment.fault in
    record {
      stays = c.answer_segment.ensures.stays;
      adds = λ segment o. let is = o.image in let spread = o.spread in let inside = o.placed in record {
        added = tt;
        opens = tt;
        full = λ e.
            overfull_answered query table segment head a.held (in_pool c.args.groups.now c.args.pool.now)
            (c.in-Err-answer_segment.ensures.full (ap Err (own_fault _ fault engine.TooManyGroups e))) is;
        filled = λ e. c.in-Err-answer_segment.ensures.filled (ap Err (own_fault _ fault engine.TooManyGroups e));
        bad = λ part e.
            let bad = c.in-Err-answer_segment.ensures.bad part (ap Err (own_fault _ fault (engine.NotASegment part) e)) in
            (inr (head, o, inr (tree, tree_planned query table head tree planned, bad)), bad_answered query table segment head a.held bad.1 is);
        only_reads = reads_failed _ _ fault engine.ReadFault a b c.in-Err-answer_segment.ensures.only_reads;
        log = answer_partly table c.requires.loaded.asked.valid head c.requires.loaded.asked.of_table segment.file inside query a.held tree a.log b.log within c.in-Err-answer_segment.ensures.log_of_fault;
        reads = tt;
        reads_of_fault = tree_given_up query table segment c.docs_bound_law.ensures.bound c.requires.loaded.asked.valid head c.requires.loaded.asked.of_table tree within a.held a.log b.log
            (λ files rows has in_file. tree_plan query table c.head_tells_law.ensures c.plan_over_law.ensures c.requires.loaded.asked.valid c.requires.loaded.asked.query files segment head tree planned c.requires.loaded.filtered in_file rows has) is spread c.in-Err-answer_segment.ensures.log_of_fault;
      };
      done = tt;
    }
