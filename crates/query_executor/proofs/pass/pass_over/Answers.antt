use Rattle.std.proofs.Common.{◌≡◌, ◌∙◌, ◌+◌, ◌*◌, ◌-◌, ◌<◌, [], ℕ, true, false, List, Err, length, get_or, refl, sym, ap, subst, arith}
use Rattle.outside.specs.Seen.{Seen, seen}
use Rattle.agg_laws.specs.Numbers.{most_values}
use Rattle.segment_head.specs.declared.fault.EngineFault.TheVariants as engine
use Rattle.group_table.specs.Kept.{groups_in}
use Rattle.scan_engine.specs.Scanned.{HaveAtMost}
use Rattle.scan_engine.proofs.AddLemmas.{at_most_more}
use Rattle.segment_reads.specs.Logs.{IsFileOf}
use borrow.Author.Count.{below_more, below_none}
use Rattle.segment_opening.specs.Calls.{HasOpeningIn}
use Rattle.query_executor.specs.Lines.{stats_line}
use Rattle.query_executor.specs.Passes.{IsBadPart, kept_by}
use Rattle.group_table.proofs.SlotFrames.{stays_same, stays_both}
use Rattle.query_executor.specs.Steps.{AddsFirst, AddsLine, AddsStored, HasLines, IsStoredOverfull, fault_at}
use Rattle.query_executor.proofs.PassLemmas.{count_most, named_at}
use Rattle.query_executor.proofs.LineLemmas.{lines_more, no_lines}
use Rattle.query_executor.specs.declared.fault.ExecutorFault.TheVariants.{NotASegment, ReadFault}
use Rattle.query_executor.proofs.FaultLemmas.{bad_so, read_so, refused_so}
use Rattle.query_executor.proofs.GroupLemmas.{none_first, one_more, too_many}
use Rattle.segment_reads.proofs.NameLemmas.{among, is_at}
use Rattle.segment_reads.proofs.LogLemmas.{logs_as, logs_none, entries_as, entries_then, logs_then, reads_as, reads_none, reads_then}
use Rattle.segment_reads.specs.Reads.{LogsEach, ReadsPlanned}
use Rattle.segment_reads.proofs.GrownLemmas.{IsFileBefore, each_as, each_more, each_none, each_rest, more_before, none_before, this_before}
use Rattle.segment_reads.proofs.SpanLemmas.{planned_less, planned_of_file}
use Rattle.query_executor.proofs.Unread.{nothing_read}
use Rattle.segment_file.specs.Names.{IsSegmentName}
use Rattle.sql_reply.specs.declared.fault.SqlFault.TheVariants.{TooManyGroups}
use Rattle.query_executor.proofs.EndLemmas.{no_fault}
use Rattle.query_executor.proofs.pass.pass_over.Goals as goal
use Rattle.segment_head.specs.declared.stored.Stored.{Stored}
use Rattle.segment_head.specs.Stored.{segment_at}

pub stored-init : goal.stored-init
stored-init g c = record {
  stays = stays_same c.args.pass.now.groups c.args.pass.now.pool c.requires.pooled;
  of_query = c.requires.begins.of_query;
  most = refl;
  fits = λ n at_most. at_most_more (groups_in (kept_by c.args.pass.now)) n (n + 0 * 1048576) (omega arith) at_most;
  so_far = none_first c.args.query.now c.args.table.now c.args.stored.now (g.S.Shelf.held c.args.shelf.now) (kept_by c.args.pass.now);
  wants = refl;
  lines = λ wanted. subst (HasLines (stats_line c.args.query.now c.args.table.now) c.args.table.now (g.S.Shelf.held c.args.shelf.now) c.args.stored.now 0) (sym c.requires.no_lines) (no_lines (stats_line c.args.query.now c.args.table.now) c.args.table.now c.args.stored.now (g.S.Shelf.held c.args.shelf.now));
  opens = below_none (λ k. HasOpeningIn c.args.table.now (g.S.Shelf.held c.args.shelf.now) (segment_at c.args.stored.now k));
  reads = reads_none (seen g.S.Shelf c.args.shelf.now);
  log = logs_none (IsFileOf c.args.stored.now) (g.S.Shelf.log c.args.shelf.now);
  files = none_before c.args.stored.now (g.S.Shelf.log c.args.shelf.now);
  each = each_none (ReadsPlanned c.args.query.now c.args.table.now true) c.args.table.now (g.S.Shelf.held c.args.shelf.now) c.args.stored.now (g.S.Shelf.log c.args.shelf.now);
}

pub pass_one-requires : goal.pass_one-requires
pass_one-requires g c =
    let stored : List Stored = c.args.stored.now in
    let lt : c.stored.at < length stored = omega arith in
    let segment : Stored = c.index-stored-at.result in
    let is : segment ≡ segment_at stored c.stored.at = is_at stored c.stored.at segment lt c.index-stored-at.is in
    record {
      of_table = record {
        valid = c.requires.begins.over.of_table.valid;
        name = subst (λ (s : Stored). IsSegmentName s.name) (sym is) (named_at c.args.table.now stored c.requires.begins.over.of_table c.stored.at lt);
        query = c.requires.begins.over.query;
      };
      pooled = c.stored.invariant.stays.table;
      room = record {
        of_query = c.stored.invariant.of_query;
        fits = at_most_more (groups_in (kept_by c.stored.pass)) (most_values - length stored * 1048576 + c.stored.at * 1048576) (most_values - 1048576) (omega (arith, lt, count_most c.args.table.now stored c.requires.begins.over.of_table))
            (c.stored.invariant.fits (most_values - length stored * 1048576) c.requires.begins.fits);
      };
    }

pub stored-preserved : goal.stored-preserved
stored-preserved g c =
    let a : Seen = seen g.S.Shelf c.args.shelf.now in
    let b : Seen = seen g.S.Shelf c.stored.shelf in
    let d : Seen = seen g.S.Shelf c.pass_one.new.shelf in
    let query = c.args.query.now in
    let table = c.args.table.now in
    let stored : List Stored = c.args.stored.now in
    let segment : Stored = c.index-stored-at.result in
    let lt : c.stored.at < length stored = omega arith in
    let is : segment ≡ segment_at stored c.stored.at = is_at stored c.stored.at segment lt c.index-stored-at.is in
    let added : AddsStored query table a.held (segment_at stored c.stored.at) (kept_by c.stored.pass) (kept_by c.pass_one.new.pass) =
    subst (λ segment. AddsStored query table a.held segment (kept_by c.stored.pass) (kept_by c.pass_one.new.pass)) is
    (subst (λ held. AddsStored query table held segment (kept_by c.stored.pass) (kept_by c.pass_one.new.pass)) c.stored.invariant.reads.held c.in-Ok.ensures.adds.added) in
    record {
      stays = stays_both c.args.pass.now.groups c.stored.pass.groups c.pass_one.new.pass.groups c.args.pass.now.pool c.stored.pass.pool c.pass_one.new.pass.pool c.stored.invariant.stays c.in-Ok.ensures.stays;
      of_query = added.of_query;
      most = added.most ∙ c.stored.invariant.most;
      fits = λ n at_most. at_most_more (groups_in (kept_by c.pass_one.new.pass)) (n + c.stored.at * 1048576 + 1048576) (n + (c.stored.at + 1) * 1048576) (omega arith) (added.fits (n + c.stored.at * 1048576) (c.stored.invariant.fits n at_most));
      so_far = one_more query table stored a.held c.stored.at (kept_by c.args.pass.now) (kept_by c.stored.pass) (kept_by c.pass_one.new.pass) lt c.stored.invariant.so_far added;
      wants = c.in-Ok.ensures.wants ∙ c.stored.invariant.wants;
      lines = λ wanted. lines_more (stats_line query table) table stored a.held c.stored.at c.stored.pass.lines.items c.pass_one.new.pass.lines.items lt (c.stored.invariant.lines wanted)
          (subst (λ segment. AddsLine (stats_line query table) table a.held segment c.stored.pass.lines.items c.pass_one.new.pass.lines.items) is
          (subst (λ held. AddsLine (stats_line query table) table held segment c.stored.pass.lines.items c.pass_one.new.pass.lines.items) c.stored.invariant.reads.held (c.in-Ok.ensures.lines (c.stored.invariant.wants ∙ wanted))));
      opens =
          let own : HasOpeningIn table a.held (segment_at stored c.stored.at) =
          subst (λ segment. HasOpeningIn table a.held segment) is
          (subst (λ held. HasOpeningIn table held segment) c.stored.invariant.reads.held c.in-Ok.ensures.adds.opens) in
          below_more (λ k. HasOpeningIn table a.held (segment_at stored k)) c.stored.at c.stored.invariant.opens own;
      reads = reads_then a b d c.stored.invariant.reads (reads_as b d c.in-Ok.ensures.adds.only_reads (λ e. absurd e) (λ e. absurd cc));
      log = logs_then (IsFileOf stored) a.log b.log d.log c.stored.invariant.log
          (logs_as (λ file. file ≡ segment.file) (IsFileOf stored) b.log d.log (λ file e. (segment_at stored c.stored.at, among stored c.stored.at lt, e ∙ ap (λ (s : Stored). s.file) is)) c.in-Ok.ensures.adds.log);
      files = entries_then (λ entry. IsFileBefore stored (c.stored.at + 1) entry.file) a.log b.log d.log
          (entries_as (λ entry. IsFileBefore stored c.stored.at entry.file) (λ entry. IsFileBefore stored (c.stored.at + 1) entry.file) a.log b.log (λ entry h. more_before stored c.stored.at entry.file h) c.stored.invariant.files)
          (entries_as (λ entry. entry.file ≡ segment.file) (λ entry. IsFileBefore stored (c.stored.at + 1) entry.file) b.log d.log (λ entry e. this_before stored c.stored.at segment entry.file is e) c.in-Ok.ensures.adds.log);
      each = each_more (ReadsPlanned query table true) table a.held stored (planned_of_file query table true) b.held c.stored.at segment a.log b.log d.log lt is c.stored.invariant.reads.held c.stored.invariant.files c.in-Ok.ensures.adds.log c.stored.invariant.each c.in-Ok.ensures.adds.reads;
    }

pub returns-in-Err-clause-refused : goal.returns-in-Err-clause-refused
returns-in-Err-clause-refused g c = λ fault is real.
    let query = c.args.query.now in
    let table = c.args.table.now in
    let stored : List Stored = c.args.stored.now in
    let segment : Stored = c.index-stored-at.result in
    let lt : c.stored.at < length stored = omega arith in
    let named : segment ≡ segment_at stored c.stored.at = is_at stored c.stored.at segment lt c.index-stored-at.is in
    let (full, fault_is) = refused_so _ _ c.in-Err.fault fault (sym c.fault_at.ensures ∙ cc) real in
    let held = g.S.Shelf.held c.args.shelf.now in
    let over : IsStoredOverfull query table held (segment_at stored c.stored.at) (kept_by c.stored.pass) =
    subst (λ segment. IsStoredOverfull query table held segment (kept_by c.stored.pass)) named
    (subst (λ held. IsStoredOverfull query table held segment (kept_by c.stored.pass)) c.stored.invariant.reads.held (c.in-Err.ensures.adds.full (ap Err full))) in
    (fault_is, too_many query table stored held c.stored.at (kept_by c.args.pass.now) (kept_by c.stored.pass) lt c.stored.invariant.most c.stored.invariant.so_far over)

pub returns-in-Err-clause-passes : goal.returns-in-Err-clause-passes
returns-in-Err-clause-passes g c = record {
  bad = λ at part is.
      let stored : List Stored = c.args.stored.now in
      let segment : Stored = c.index-stored-at.result in
      let lt : c.stored.at < length stored = omega arith in
      let named : segment ≡ segment_at stored c.stored.at = is_at stored c.stored.at segment lt c.index-stored-at.is in
      let (at_is, bad) = bad_so _ _ at c.in-Err.fault part (sym c.fault_at.ensures ∙ cc) in
      let own : IsBadPart c.args.query.now c.args.table.now (g.S.Shelf.held c.args.shelf.now) (segment_at stored c.stored.at) part =
      subst (λ segment. IsBadPart c.args.query.now c.args.table.now (g.S.Shelf.held c.args.shelf.now) segment part) named
      (subst (λ held. IsBadPart c.args.query.now c.args.table.now held segment part) c.stored.invariant.reads.held (c.in-Err.ensures.adds.bad part (ap Err bad))) in
      (omega (arith, at_is, lt), subst (λ k. IsBadPart c.args.query.now c.args.table.now (g.S.Shelf.held c.args.shelf.now) (segment_at stored k) part) at_is own);
  only_reads =
      let a : Seen = seen g.S.Shelf c.args.shelf.now in
      let b : Seen = seen g.S.Shelf c.stored.shelf in
      let d : Seen = seen g.S.Shelf c.pass_one.new.shelf in
      reads_then a b d c.stored.invariant.reads
      (reads_as b d c.in-Err.ensures.adds.only_reads (λ e. let own : c.fault_at.result ≡ ReadFault = cc in ap Err (read_so _ _ c.in-Err.fault (sym c.fault_at.ensures ∙ own)))
      (λ e. let own : c.in-Err.fault ≡ engine.ReadFault = cc in ap Err (c.fault_at.ensures ∙ ap (fault_at _ _) own)));
  log =
      let stored : List Stored = c.args.stored.now in
      let segment : Stored = c.index-stored-at.result in
      let lt : c.stored.at < length stored = omega arith in
      let named : segment ≡ segment_at stored c.stored.at = is_at stored c.stored.at segment lt c.index-stored-at.is in
      let b = g.S.Shelf.log c.stored.shelf in
      let d = g.S.Shelf.log c.pass_one.new.shelf in
      logs_then (IsFileOf stored) (g.S.Shelf.log c.args.shelf.now) b d c.stored.invariant.log
      (logs_as (λ file. file ≡ segment.file) (IsFileOf stored) b d (λ file e. (segment_at stored c.stored.at, among stored c.stored.at lt, e ∙ ap (λ (s : Stored). s.file) named)) c.in-Err.ensures.adds.log);
  reads = tt;
  reads_of_fault =
      let a : Seen = seen g.S.Shelf c.args.shelf.now in
      let b : Seen = seen g.S.Shelf c.stored.shelf in
      let d : Seen = seen g.S.Shelf c.pass_one.new.shelf in
      let query = c.args.query.now in
      let table = c.args.table.now in
      let stored : List Stored = c.args.stored.now in
      let segment : Stored = c.index-stored-at.result in
      let lt : c.stored.at < length stored = omega arith in
      let is : segment ≡ segment_at stored c.stored.at = is_at stored c.stored.at segment lt c.index-stored-at.is in
      let before = each_as (ReadsPlanned query table true) (ReadsPlanned query table false) table a.held stored c.stored.at a.log b.log (planned_less query table) c.stored.invariant.each in
      let here = each_more (ReadsPlanned query table false) table a.held stored (planned_of_file query table false) b.held c.stored.at segment a.log b.log d.log lt is c.stored.invariant.reads.held c.stored.invariant.files c.in-Err.ensures.adds.log before c.in-Err.ensures.adds.reads_of_fault in
      let files = entries_then (λ entry. IsFileBefore stored (c.stored.at + 1) entry.file) a.log b.log d.log
      (entries_as (λ entry. IsFileBefore stored c.stored.at entry.file) (λ entry. IsFileBefore stored (c.stored.at + 1) entry.file) a.log b.log (λ entry h. more_before stored c.stored.at entry.file h) c.stored.invariant.files)
      (entries_as (λ entry. entry.file ≡ segment.file) (λ entry. IsFileBefore stored (c.stored.at + 1) entry.file) b.log d.log (λ entry e. this_before stored c.stored.at segment entry.file is e) c.in-Err.ensures.adds.log) in
      each_rest (ReadsPlanned query table false) table a.held stored (planned_of_file query table false) (c.stored.at + 1) a.log d.log (omega (arith, lt)) (nothing_read c.docs_bound_law.ensures.bound query table c.requires.begins.over.of_table.valid a.held) files here;
}

pub returns-in-Err-clause-filled : goal.returns-in-Err-clause-filled
returns-in-Err-clause-filled g c = λ most is.
    let (full, fault_is) = refused_so _ _ c.in-Err.fault (TooManyGroups most) (sym c.fault_at.ensures ∙ cc) (λ e. absurd cc) in
    c.in-Err.ensures.adds.filled (ap Err full) ∙ c.stored.invariant.most

pub returns-clause-made : goal.returns-clause-made
returns-clause-made g c =
    let query = c.args.query.now in
    let table = c.args.table.now in
    let stored : List Stored = c.args.stored.now in
    let held = g.S.Shelf.held c.args.shelf.now in
    let done : c.stored.at ≡ length stored = omega arith in
    record {
      of_query = c.stored.invariant.of_query;
      most = c.stored.invariant.most;
      fits = λ n at_most. at_most_more (groups_in (kept_by c.stored.pass)) (n + c.stored.at * 1048576) (n + length stored * 1048576) (omega (arith, done)) (c.stored.invariant.fits n at_most);
      groups = subst (λ k. AddsFirst query table held stored k (kept_by c.args.pass.now) (kept_by c.stored.pass)) done c.stored.invariant.so_far;
      lines = λ wanted. subst (λ k. HasLines (stats_line query table) table held stored k c.stored.pass.lines.items) done (c.stored.invariant.lines wanted);
      openings = λ at lt. c.stored.invariant.opens at (omega (arith, done, lt));
    }

pub returns-clause-passes : goal.returns-clause-passes
returns-clause-passes g c = record {
  bad = λ at part e. absurd (no_fault _ tt (NotASegment at part) e);
  only_reads = reads_as (seen g.S.Shelf c.args.shelf.now) (seen g.S.Shelf c.stored.shelf) c.stored.invariant.reads (λ e. absurd cc) (λ e. absurd e);
  log = c.stored.invariant.log;
  reads =
      let stored : List Stored = c.args.stored.now in
      let done : c.stored.at ≡ length stored = omega arith in
      subst (λ k. LogsEach (ReadsPlanned c.args.query.now c.args.table.now true) c.args.table.now (g.S.Shelf.held c.args.shelf.now) stored k (g.S.Shelf.log c.args.shelf.now) (g.S.Shelf.log c.stored.shelf)) done c.stored.invariant.each;
  reads_of_fault = tt;
}

pub returns-in-Err-clause-stays : goal.returns-in-Err-clause-stays
returns-in-Err-clause-stays g c = stays_both c.args.pass.now.groups c.stored.pass.groups c.pass_one.new.pass.groups c.args.pass.now.pool c.stored.pass.pool c.pass_one.new.pass.pool c.stored.invariant.stays c.in-Err.ensures.stays

pub returns-clause-stays : goal.returns-clause-stays
returns-clause-stays g c = c.stored.invariant.stays
