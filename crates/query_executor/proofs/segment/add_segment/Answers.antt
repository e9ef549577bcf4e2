use Rattle.std.proofs.Common.{◌≡◌, ◌∙◌, true, false, ℕ, List, Result, Ok, Err, IfOk, IfSome, inl, inr, is_some, refl, sym, ap, subst}
use Rattle.outside.specs.Seen.{Seen, seen}
use Rattle.eligibility.specs.Rule.{picked}
use Rattle.std.specs.Prelude.{OnOk}
use Rattle.segment_head.specs.declared.fault.EngineFault.TheVariants as engine
use Rattle.segment_head.specs.Stored.{HasNoImage}
use Rattle.query_executor.specs.Steps.{AddsStored, IsStoredOverfull}
use Rattle.segment_reads.specs.Looked.{IsDoneIn}
use Rattle.segment_opening.specs.Calls.{FailsColumn, IsOpened}
use Rattle.segment_opening.specs.Emptied.{IsEmptied}
use Rattle.segment_opening.specs.Found.{IsFoundBeside}
use Rattle.segment_opening.specs.Opened.{Grows, IsHeadIn}
use Rattle.query_executor.specs.ByIds.{CanAskByIds}
use Rattle.query_executor.proofs.AfterHead.{adds_after, done_after, opened_loaded}
use Rattle.query_executor.proofs.IdsFound.{can_ask, unpicked_so}
use Rattle.segment_plan.specs.declared.plans.SegmentPlan.TheVariants.{Pruned}
use Rattle.query_executor.proofs.DoneLemmas.{done_so, none_looked}
use Rattle.query_executor.proofs.PlanLemmas.{pruned_planned}
use Rattle.query_executor.proofs.EndLemmas.{no_fault, own_fault, reads_done, reads_failed, reads_still, found_so}
use Rattle.segment_opening.proofs.HeadLemmas.{opened_later}
use Rattle.segment_reads.proofs.LogLemmas.{head_in, loaded_in, logs_then, reads_then}
use Rattle.query_executor.proofs.EmptyLemmas.{adds_empty, empty_done}
use Rattle.query_executor.proofs.SegmentLemmas.{adds_none}
use Rattle.segment_scan.proofs.SegmentLemmas.{ok_so}
use Rattle.segment_reads.specs.Reads.{LogsOne, ReadsPlanned}
use Rattle.query_executor.proofs.OneReads.{err_so, given_up, headed_one, heads_then, loaded_one, opened_one, quiet_one}
use Rattle.query_executor.proofs.segment.add_segment.Goals as goal
use Rattle.group_table.specs.Pooled.{in_pool}
use Rattle.group_table.proofs.SlotFrames.{stays_same}
use Rattle.segment_head.specs.declared.stored.Stored.{Stored}

pub open_segment-requires : goal.open_segment-requires
open_segment-requires g c = record { valid = c.requires.of_table.valid; name = c.requires.of_table.name }

pub load_or_look_up-requires : goal.load_or_look_up-requires
load_or_look_up-requires g c = record { valid = c.requires.of_table.valid; query = c.requires.of_table.query; of_table = c.in-Ok.ensures.opened.of }

pub add_planned-requires : goal.add_planned-requires
add_planned-requires g c = record {
  pooled = c.requires.pooled;
  room = c.requires.room;
  loaded = record {
    asked = record { valid = c.requires.of_table.valid; query = c.requires.of_table.query; of_table = c.in-Ok-load_or_look_up.ensures.loads.grows.of_table };
    filtered = (c.in-Ok-load_or_look_up.ensures.wanted c.in-Wanted.is).filtered;
    grouped = (c.in-Ok-load_or_look_up.ensures.wanted c.in-Wanted.is).grouped;
    named = λ none. (c.in-Ok-load_or_look_up.ensures.wanted c.in-Wanted.is).named (c.is_some-by_tree.ensures ∙ ap is_some (c.pick.ensures ∙ ap (picked c.args.query.now) c.as_slice.ensures ∙ none));
  };
}

pub add_by_ids-requires : goal.add_by_ids-requires
add_by_ids-requires g c =
    let a : Seen = seen g.S.Shelf c.args.shelf.now in
    let d : Seen = seen g.S.Shelf c.load_or_look_up.new.shelf in
    let query = c.args.query.now in
    let table = c.args.table.now in
    let segment = c.args.segment.now in
    let head = c.in-Ok.head in
    let full = c.load_or_look_up.new.head in
    let found = c.in-But.found in
    let same = c.in-Ok.ensures.looks.only_reads.held in
    let grown : Grows table a.held head full = subst (λ h. Grows table h head full) same c.in-Ok-load_or_look_up.ensures.loads.grows in
    let but : IsFoundBeside query table a.held c.is_some-by_tree.result head full found.conjuncts found.counts.items = subst (λ h. IsFoundBeside query table h c.is_some-by_tree.result head full found.conjuncts found.counts.items) same (c.in-Ok-load_or_look_up.ensures.found found c.in-But.is) in
    record {
      pooled = c.requires.pooled;
      room = c.requires.room;
      can = subst (λ h. CanAskByIds query table h segment full found.conjuncts found.counts.items) (sym (c.in-Ok-load_or_look_up.ensures.loads.only_reads.held ∙ same))
          (can_ask table c.head_tells_law.ensures c.requires.of_table.valid query found.conjuncts found.counts.items c.requires.of_table.query a.held segment head full c.in-Ok.ensures.opened grown
          (sym c.prune.ensures ∙ c.if-prune.false)
          (unpicked_so (picked query table.settings.trees) (sym (c.is_some-by_tree.ensures ∙ ap is_some (c.pick.ensures ∙ ap (picked query) c.as_slice.ensures)) ∙ but.untreed)) but.askable but.whole);
    }

pub returns-in-Err : goal.returns-in-Err
returns-in-Err g c =
    let a : Seen = seen g.S.Shelf c.args.shelf.now in
    let b : Seen = seen g.S.Shelf c.open_segment.new.shelf in
    let table = c.args.table.now in
    let segment = c.args.segment.now in
    record {
      stays = stays_same c.args.groups.now c.args.pool.now c.requires.pooled;
      adds = record {
        added = tt;
        opens = tt;
        full = λ is. absurd (c.in-Err.ensures.looks.never_full (ap Err (own_fault _ c.in-Err.fault engine.TooManyGroups is)));
        filled = λ is. absurd (c.in-Err.ensures.looks.never_full (ap Err (own_fault _ c.in-Err.fault engine.TooManyGroups is)));
        bad = λ part is. let bad = c.in-Err.ensures.looks.bad part (ap Err (own_fault _ c.in-Err.fault (engine.NotASegment part) is)) in (inl bad.0, bad.1);
        only_reads = reads_failed _ _ c.in-Err.fault engine.ReadFault a b c.in-Err.ensures.looks.only_reads;
        log = head_in table segment a.held a.log b.log c.in-Err.ensures.looks.log;
        reads = tt;
        reads_of_fault = given_up c.args.query.now table segment c.docs_bound_law.ensures.bound c.requires.of_table.valid a.held a.log b.log (opened_one c.args.query.now table segment c.requires.of_table.valid c.requires.of_table.name a.held a.log b.log c.in-Err.ensures.looks.log);
      };
      done = tt;
    }

pub returns-then-prune : goal.returns-then-prune
returns-then-prune g c =
    let a : Seen = seen g.S.Shelf c.args.shelf.now in
    let b : Seen = seen g.S.Shelf c.open_segment.new.shelf in
    let query = c.args.query.now in
    let table = c.args.table.now in
    let segment = c.args.segment.now in
    let head = c.in-Ok.head in
    let is = sym c.prune.ensures ∙ c.if-prune.true in
    let done = done_so query table c.head_tells_law.ensures c.plan_over_law.ensures c.requires.of_table.valid c.requires.of_table.query a.held segment head c.nothing.result.plan c.nothing.result.docs
    (c.nothing.ensures.plan ∙ pruned_planned query table head is) (inl is) (none_looked query table a.held head c.nothing.result.plan Pruned c.nothing.result.docs c.nothing.ensures.plan (λ rows. refl) c.nothing.ensures.none) c.in-Ok.ensures.opened.image in
    record {
      stays = stays_same c.args.groups.now c.args.pool.now c.requires.pooled;
      adds = record {
        added = adds_none query table segment head c.head_tells_law.ensures c.requires.of_table.valid a.held (in_pool c.args.groups.now c.args.pool.now) c.requires.room.of_query (λ rows tells. c.pruned_law.ensures query table rows head tells is) c.in-Ok.ensures.opened.image;
        opens = c.in-Ok.ensures.opened.opening;
        full = λ fault. absurd (no_fault _ _ engine.TooManyGroups fault);
        filled = λ fault. absurd (no_fault _ _ engine.TooManyGroups fault);
        bad = λ part fault. absurd (no_fault _ _ (engine.NotASegment part) fault);
        only_reads = reads_done _ _ head _ engine.ReadFault a b c.in-Ok.ensures.looks.only_reads;
        log = head_in table segment a.held a.log b.log c.in-Ok.ensures.looks.log;
        reads = quiet_one query table segment a.held c.nothing.result.plan c.nothing.result.docs a.log b.log done (inl c.nothing.ensures.plan) (opened_one query table segment c.requires.of_table.valid c.requires.of_table.name a.held a.log b.log c.in-Ok.ensures.looks.log);
        reads_of_fault = tt;
      };
      done = done;
    }

pub returns-in-Emptied : goal.returns-in-Emptied
returns-in-Emptied g c =
    let a : Seen = seen g.S.Shelf c.args.shelf.now in
    let b : Seen = seen g.S.Shelf c.open_segment.new.shelf in
    let d : Seen = seen g.S.Shelf c.load_or_look_up.new.shelf in
    let query = c.args.query.now in
    let table = c.args.table.now in
    let segment = c.args.segment.now in
    let head = c.in-Ok.head in
    let same = c.in-Ok.ensures.looks.only_reads.held in
    let none : IsEmptied query table a.held head = subst (λ h. IsEmptied query table h head) same (c.in-Ok-load_or_look_up.ensures.emptied c.in-Emptied.is) in
    let opened = head_in table segment a.held a.log b.log c.in-Ok.ensures.looks.log in
    let loaded = loaded_in table segment head b.log d.log c.in-Ok.ensures.opened.of c.in-Ok.ensures.opened.placed c.in-Ok-load_or_look_up.ensures.loads.log in
    let heads = heads_then query table segment a.held a.log b.log d.log opened loaded
    (opened_one query table segment c.requires.of_table.valid c.requires.of_table.name a.held a.log b.log c.in-Ok.ensures.looks.log)
    (loaded_one query table segment a.held head b.log d.log c.in-Ok.ensures.opened.placed c.in-Ok.ensures.opened.spread c.in-Ok-load_or_look_up.ensures.loads.log) in
    let done = empty_done query table segment head c.requires.of_table.valid c.head_tells_law.ensures c.plan_over_law.ensures c.requires.of_table.query a.held c.nothing-in-Emptied.result.plan c.nothing-in-Emptied.result.docs
    c.nothing-in-Emptied.ensures.plan c.nothing-in-Emptied.ensures.none (sym c.prune.ensures ∙ c.if-prune.false) none c.in-Ok.ensures.opened.image in
    record {
      stays = stays_same c.args.groups.now c.args.pool.now c.requires.pooled;
      adds = record {
        added = adds_empty query table segment head c.requires.of_table.valid c.head_tells_law.ensures c.empty_law.ensures a.held (in_pool c.args.groups.now c.args.pool.now) c.requires.room.of_query none c.in-Ok.ensures.opened.image;
        opens = c.in-Ok.ensures.opened.opening;
        full = λ fault. absurd (no_fault _ _ engine.TooManyGroups fault);
        filled = λ fault. absurd (no_fault _ _ engine.TooManyGroups fault);
        bad = λ part fault. absurd (no_fault _ _ (engine.NotASegment part) fault);
        only_reads = reads_then a b d (reads_still _ head engine.ReadFault a b c.in-Ok.ensures.looks.only_reads) (reads_done _ _ c.in-Ok-load_or_look_up.loaded _ engine.ReadFault b d c.in-Ok-load_or_look_up.ensures.loads.only_reads);
        log = logs_then (λ other. other ≡ segment.file) a.log b.log d.log opened loaded;
        reads = quiet_one query table segment a.held c.nothing-in-Emptied.result.plan c.nothing-in-Emptied.result.docs a.log d.log done (inr c.nothing-in-Emptied.ensures.plan) heads;
        reads_of_fault = tt;
      };
      done = done;
    }

pub returns-in-Err-load_or_look_up : goal.returns-in-Err-load_or_look_up
returns-in-Err-load_or_look_up g c =
    let a : Seen = seen g.S.Shelf c.args.shelf.now in
    let b : Seen = seen g.S.Shelf c.open_segment.new.shelf in
    let d : Seen = seen g.S.Shelf c.load_or_look_up.new.shelf in
    let query = c.args.query.now in
    let table = c.args.table.now in
    let segment = c.args.segment.now in
    let head = c.in-Ok.head in
    let fault = c.in-Err-load_or_look_up.fault in
    let same = c.in-Ok.ensures.looks.only_reads.held in
    let opened = head_in table segment a.held a.log b.log c.in-Ok.ensures.looks.log in
    let loaded = loaded_in table segment head b.log d.log c.in-Ok.ensures.opened.of c.in-Ok.ensures.opened.placed c.in-Err-load_or_look_up.ensures.loads.log in
    record {
      stays = stays_same c.args.groups.now c.args.pool.now c.requires.pooled;
      adds = record {
        added = tt;
        opens = tt;
        full = λ is. absurd (c.in-Err-load_or_look_up.ensures.loads.never_full (ap Err (own_fault _ fault engine.TooManyGroups is)));
        filled = λ is. absurd (c.in-Err-load_or_look_up.ensures.loads.never_full (ap Err (own_fault _ fault engine.TooManyGroups is)));
        bad = λ part is.
            let own = ap Err (own_fault _ fault (engine.NotASegment part) is) in (
              inl (inr (head, c.in-Ok.ensures.opened, subst (λ held. FailsColumn table held head part) same (c.in-Err-load_or_look_up.ensures.loads.named part own))),
              subst (λ held. IfSome held (λ files. HasNoImage table files segment)) same
                  (c.in-Err-load_or_look_up.ensures.loads.bad part own segment (subst (λ held. IsHeadIn table held segment head) (sym same) c.in-Ok.ensures.opened.image)),
            );
        only_reads = reads_then a b d (reads_still _ head engine.ReadFault a b c.in-Ok.ensures.looks.only_reads) (reads_failed _ _ fault engine.ReadFault b d c.in-Err-load_or_look_up.ensures.loads.only_reads);
        log = logs_then (λ other. other ≡ segment.file) a.log b.log d.log opened loaded;
        reads = tt;
        reads_of_fault = given_up query table segment c.docs_bound_law.ensures.bound c.requires.of_table.valid a.held a.log d.log
            (heads_then query table segment a.held a.log b.log d.log opened loaded
            (opened_one query table segment c.requires.of_table.valid c.requires.of_table.name a.held a.log b.log c.in-Ok.ensures.looks.log) (loaded_one query table segment a.held head b.log d.log c.in-Ok.ensures.opened.placed c.in-Ok.ensures.opened.spread c.in-Err-load_or_look_up.ensures.loads.log));
      };
      done = tt;
    }

pub returns-in-Wanted : goal.returns-in-Wanted
returns-in-Wanted g c =
    let a : Seen = seen g.S.Shelf c.args.shelf.now in
    let b : Seen = seen g.S.Shelf c.open_segment.new.shelf in
    let d : Seen = seen g.S.Shelf c.load_or_look_up.new.shelf in
    let e : Seen = seen g.S.Shelf c.add_planned.new.shelf in
    let query = c.args.query.now in
    let table = c.args.table.now in
    let segment = c.args.segment.now in
    let head = c.in-Ok.head in
    let full = c.load_or_look_up.new.head in
    let opened = opened_loaded query table segment head c.in-Ok-load_or_look_up.loaded head full a b d c.requires.of_table c.in-Ok.ensures.opened c.in-Ok.ensures.looks c.in-Ok-load_or_look_up.ensures.loads in
    let grown : Grows table a.held head full = subst (λ h. Grows table h head full) c.in-Ok.ensures.looks.only_reads.held c.in-Ok-load_or_look_up.ensures.loads.grows in
    let later : IsOpened table d.held segment full = subst (λ h. IsOpened table h segment full) (sym opened.same) (opened_later table a.held segment head full grown c.in-Ok.ensures.opened) in
    record {
      stays = c.add_planned.ensures.stays;
      adds = adds_after query table segment (in_pool c.args.groups.now c.args.pool.now) (in_pool c.add_planned.new.groups c.add_planned.new.pool) a d e c.add_planned.result opened (c.add_planned.ensures.adds segment later);
      done = done_after query table segment a d c.add_planned.result opened
          (found_so c.add_planned.result (λ done. (segment : Stored) → IsHeadIn table d.held segment full → IsDoneIn query table d.held segment done.plan done.docs) (λ done. IsDoneIn query table d.held segment done.plan done.docs)
          (λ done is. is segment later.image) c.add_planned.ensures.done);
    }

pub returns : goal.returns
returns g c =
    let a : Seen = seen g.S.Shelf c.args.shelf.now in
    let b : Seen = seen g.S.Shelf c.open_segment.new.shelf in
    let d : Seen = seen g.S.Shelf c.load_or_look_up.new.shelf in
    let e : Seen = seen g.S.Shelf c.add_by_ids.new.shelf in
    let query = c.args.query.now in
    let table = c.args.table.now in
    let segment = c.args.segment.now in
    let head = c.in-Ok.head in
    let full = c.load_or_look_up.new.head in
    let opened = opened_loaded query table segment head c.in-Ok-load_or_look_up.loaded head full a b d c.requires.of_table c.in-Ok.ensures.opened c.in-Ok.ensures.looks c.in-Ok-load_or_look_up.ensures.loads in
    record {
      stays = c.add_by_ids.ensures.stays;
      adds = adds_after query table segment (in_pool c.args.groups.now c.args.pool.now) (in_pool c.add_by_ids.new.groups c.add_by_ids.new.pool) a d e c.add_by_ids.result opened c.add_by_ids.ensures.adds;
      done = done_after query table segment a d c.add_by_ids.result opened c.add_by_ids.ensures.done;
    }
