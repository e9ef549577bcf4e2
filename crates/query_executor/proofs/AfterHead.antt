-- What is done with a segment after its head was opened and dictionaries of it were loaded.
use Rattle.std.proofs.Common.{◌≡◌, ◌∙◌, true, false, Result, Ok, IfOk, subst}
use Rattle.std.specs.Prelude.{OnOk}
use Rattle.outside.specs.Seen as outside
use Rattle.outside.specs.Seen.{OnlyReads}
use Rattle.table_schema.specs.declared.query.BoundQuery.{BoundQuery}
use Rattle.table_schema.specs.declared.table.Table.{Table}
use Rattle.group_table.specs.Kept.{KeptGroups}
use Rattle.segment_head.specs.Heads.{Seen}
use Rattle.segment_head.specs.declared.fault.EngineFault.{EngineFault}
use Rattle.segment_head.specs.declared.fault.EngineFault.TheVariants as engine
use Rattle.segment_head.specs.declared.stored.Stored.{Stored}
use Rattle.segment_reads.specs.Logs.{LogsIn}
use Rattle.segment_reads.specs.Looked.{IsDoneIn}
use Rattle.segment_reads.specs.Reads.{LogsOne, ReadsPlanned}
use Rattle.segment_reads.proofs.LogLemmas.{head_in, loaded_in, logs_then, reads_then}
use Rattle.segment_opening.specs.Calls.{HasOpeningIn, IsOpened, LoadsMore, LooksAtHead}
use Rattle.segment_scan.proofs.SegmentLemmas.{ok_so}
use Rattle.query_executor.specs.Passes.{AddsSegment, IsBadPart, IsQueryOf}
use Rattle.query_executor.specs.Steps.{AddsStored, IsStoredOverfull}
use Rattle.query_executor.specs.declared.scanned.Scanned.{Scanned}
use Rattle.query_executor.proofs.EndLemmas.{reads_still}
use Rattle.query_executor.proofs.OneReads.{LogsHeadOne, err_so, headed_one, heads_then, loaded_one, opened_one}

-- the head alone was read, and no read failed
pub record AreOpened (query : BoundQuery) (table : Table) (segment : Stored) (a d : outside.Seen) : Type 0 where
  pub same : d.held ≡ a.held
  pub reads : OnlyReads ⊥ a d
  pub log : LogsIn segment.file a.log d.log
  pub heads : LogsHeadOne query table segment a.held a.log d.log

module _ (query : BoundQuery) (table : Table) (segment : Stored) where
  pub opened_loaded : {A B : Type 0} (x : A) (y : B) (head full : Seen) (a b d : outside.Seen) → IsQueryOf query table segment → IsOpened table a.held segment head → LooksAtHead table segment a b (Ok x) → LoadsMore table (Ok y) head full b d → AreOpened query table segment a d
  opened_loaded x y head full a b d of opened looks loads =
      let first = head_in table segment a.held a.log b.log looks.log in
      let then = loaded_in table segment head b.log d.log opened.of opened.placed loads.log in
      record {
        same = loads.only_reads.held ∙ looks.only_reads.held;
        reads = reads_then a b d (reads_still _ x engine.ReadFault a b looks.only_reads) (reads_still _ y engine.ReadFault b d loads.only_reads);
        log = logs_then (λ other. other ≡ segment.file) a.log b.log d.log first then;
        heads = heads_then query table segment a.held a.log b.log d.log first then
            (opened_one query table segment of.valid of.name a.held a.log b.log looks.log)
            (loaded_one query table segment a.held head b.log d.log opened.placed opened.spread loads.log);
      }

  -- what was added then was added to the groups of before
  pub adds_after : {A : Type 0} (groups new : KeptGroups) (a d e : outside.Seen) (r : Result A EngineFault) → AreOpened query table segment a d → AddsSegment query table segment groups new d e r → AddsSegment query table segment groups new a e r
  adds_after groups new a d e r opened adds =
      let same = opened.same in
      record {
        added = subst (λ h. OnOk r (AddsStored query table h segment groups new)) same adds.added;
        opens = subst (λ h. OnOk r (HasOpeningIn table h segment)) same adds.opens;
        full = λ is. subst (λ h. IsStoredOverfull query table h segment groups) same (adds.full is);
        filled = adds.filled;
        bad = λ part is. subst (λ h. IsBadPart query table h segment part) same (adds.bad part is);
        only_reads = reads_then a d e opened.reads adds.only_reads;
        log = logs_then (λ other. other ≡ segment.file) a.log d.log e.log opened.log adds.log;
        reads = ok_so r (LogsOne (ReadsPlanned query table true) table d.held segment d.log e.log) (LogsOne (ReadsPlanned query table true) table a.held segment a.log e.log)
            (λ reads. headed_one query table segment true a.held a.log d.log e.log opened.log adds.log opened.heads (subst (λ h. LogsOne (ReadsPlanned query table true) table h segment d.log e.log) same reads)) adds.reads;
        reads_of_fault = err_so r (LogsOne (ReadsPlanned query table false) table d.held segment d.log e.log) (LogsOne (ReadsPlanned query table false) table a.held segment a.log e.log)
            (λ reads. headed_one query table segment false a.held a.log d.log e.log opened.log adds.log opened.heads (subst (λ h. LogsOne (ReadsPlanned query table false) table h segment d.log e.log) same reads)) adds.reads_of_fault;
      }

  pub done_after : (a d : outside.Seen) (r : Result Scanned EngineFault) → AreOpened query table segment a d → IfOk r (λ done. IsDoneIn query table d.held segment done.plan done.docs) → IfOk r (λ done. IsDoneIn query table a.held segment done.plan done.docs)
  done_after a d r opened done = subst (λ h. IfOk r (λ done. IsDoneIn query table h segment done.plan done.docs)) opened.same done
