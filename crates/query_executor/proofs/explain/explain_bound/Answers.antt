use Rattle.std.proofs.Common.{◌≡◌, ◌∙◌, ◌<◌, [], ℕ, List, Err, length, get_or, sym, ap, subst, arith}
use Rattle.std.specs.List.{Contains}
use Rattle.outside.specs.Seen.{Seen, seen}
use Rattle.segment_head.specs.declared.fault.EngineFault.TheVariants as engine
use borrow.Author.Count.{below_more, below_none}
use Rattle.segment_opening.specs.Calls.{HasOpeningIn, IsBadHead}
use Rattle.query_executor.specs.Lines.{plan_line}
use Rattle.segment_reads.specs.Logs.{IsHeadRead}
use Rattle.query_executor.specs.Steps.{AddsLine, HasLines, fault_at}
use Rattle.query_executor.specs.declared.fault.ExecutorFault.TheVariants.{NotASegment, ReadFault}
use Rattle.segment_file.specs.Names.{IsSegmentName}
use Rattle.query_executor.proofs.PassLemmas.{named_at}
use Rattle.query_executor.proofs.FaultLemmas.{bad_so, read_so, wrong_so}
use Rattle.segment_reads.proofs.NameLemmas.{is_at}
use Rattle.query_executor.proofs.LineLemmas.{lines_more, no_lines}
use Rattle.segment_reads.proofs.LogLemmas.{entries_none, heads_more, reads_as, reads_none, reads_then}
use Rattle.query_executor.proofs.EndLemmas.{no_fault}
use Rattle.query_executor.proofs.explain.explain_bound.Goals as goal
use Rattle.segment_head.specs.declared.stored.Stored.{Stored}
use Rattle.segment_head.specs.Stored.{segment_at}

pub stored-init : goal.stored-init
stored-init g c = record {
  so_far = subst (HasLines (plan_line c.args.query.now c.args.table.now) c.args.table.now (g.S.Shelf.held c.args.shelf.now) c.args.stored.now 0) (sym c.new-text.ensures.items) (no_lines (plan_line c.args.query.now c.args.table.now) c.args.table.now c.args.stored.now (g.S.Shelf.held c.args.shelf.now));
  opens = below_none (λ k. HasOpeningIn c.args.table.now (g.S.Shelf.held c.args.shelf.now) (segment_at c.args.stored.now k));
  reads = reads_none (seen g.S.Shelf c.args.shelf.now);
  log = entries_none (λ entry. (segment : Stored) × Contains c.args.stored.now segment × IsHeadRead c.args.table.now (g.S.Shelf.held c.args.shelf.now) segment entry) (g.S.Shelf.log c.args.shelf.now);
}

pub explain_segment-requires : goal.explain_segment-requires
explain_segment-requires g c =
    let stored : List Stored = c.args.stored.now in
    let segment : Stored = c.index-stored-at.result in
    let lt : c.stored.at < length stored = omega arith in
    record {
      valid = c.requires.of_table.valid;
      name = subst (λ (s : Stored). IsSegmentName s.name) (sym (is_at stored c.stored.at segment lt c.index-stored-at.is)) (named_at c.args.table.now stored c.requires.of_table c.stored.at lt);
      query = c.requires.query;
    }

pub stored-preserved : goal.stored-preserved
stored-preserved g c =
    let a : Seen = seen g.S.Shelf c.args.shelf.now in
    let b : Seen = seen g.S.Shelf c.stored.shelf in
    let d : Seen = seen g.S.Shelf c.explain_segment.new.shelf in
    let query = c.args.query.now in
    let table = c.args.table.now in
    let stored : List Stored = c.args.stored.now in
    let segment : Stored = c.index-stored-at.result in
    let lt : c.stored.at < length stored = omega arith in
    let is : segment ≡ segment_at stored c.stored.at = is_at stored c.stored.at segment lt c.index-stored-at.is in
    let added : AddsLine (plan_line query table) table a.held (segment_at stored c.stored.at) c.stored.text.items c.explain_segment.new.text.items =
    subst (λ segment. AddsLine (plan_line query table) table a.held segment c.stored.text.items c.explain_segment.new.text.items) is
    (subst (λ held. AddsLine (plan_line query table) table held segment c.stored.text.items c.explain_segment.new.text.items) c.stored.invariant.reads.held c.in-Ok.ensures.ok) in
    record {
      so_far = lines_more (plan_line query table) table stored a.held c.stored.at c.stored.text.items c.explain_segment.new.text.items lt c.stored.invariant.so_far added;
      opens =
          let own : HasOpeningIn table a.held (segment_at stored c.stored.at) =
          subst (λ segment. HasOpeningIn table a.held segment) is
          (subst (λ held. HasOpeningIn table held segment) c.stored.invariant.reads.held c.in-Ok.ensures.opens) in
          below_more (λ k. HasOpeningIn table a.held (segment_at stored k)) c.stored.at c.stored.invariant.opens own;
      reads = reads_then a b d c.stored.invariant.reads (reads_as b d c.in-Ok.ensures.looks.only_reads (λ e. absurd e) (λ e. absurd cc));
      log = heads_more table stored c.stored.at segment a.held b.held a.log b.log d.log lt is c.stored.invariant.reads.held c.stored.invariant.log c.in-Ok.ensures.looks.log;
    }

pub returns-in-Err-clause-never_wrong : goal.returns-in-Err-clause-never_wrong
returns-in-Err-clause-never_wrong g c = λ fault is. wrong_so _ _ c.in-Err.fault fault (sym c.fault_at.ensures ∙ cc) (λ full. c.in-Err.ensures.looks.never_full (ap Err full))

pub returns-in-Err-clause-looks : goal.returns-in-Err-clause-looks
returns-in-Err-clause-looks g c = record {
  bad = λ at part is.
      let stored : List Stored = c.args.stored.now in
      let segment : Stored = c.index-stored-at.result in
      let lt : c.stored.at < length stored = omega arith in
      let named : segment ≡ segment_at stored c.stored.at = is_at stored c.stored.at segment lt c.index-stored-at.is in
      let (at_is, bad) = bad_so _ _ at c.in-Err.fault part (sym c.fault_at.ensures ∙ cc) in
      let own : IsBadHead c.args.table.now (g.S.Shelf.held c.args.shelf.now) (segment_at stored c.stored.at) part =
      subst (λ segment. IsBadHead c.args.table.now (g.S.Shelf.held c.args.shelf.now) segment part) named
      (subst (λ held. IsBadHead c.args.table.now held segment part) c.stored.invariant.reads.held (c.in-Err.ensures.looks.bad part (ap Err bad))) in
      (omega (arith, at_is, lt), subst (λ k. IsBadHead c.args.table.now (g.S.Shelf.held c.args.shelf.now) (segment_at stored k) part) at_is own);
  only_reads =
      let a : Seen = seen g.S.Shelf c.args.shelf.now in
      let b : Seen = seen g.S.Shelf c.stored.shelf in
      let d : Seen = seen g.S.Shelf c.explain_segment.new.shelf in
      reads_then a b d c.stored.invariant.reads
      (reads_as b d c.in-Err.ensures.looks.only_reads (λ e. let own : c.fault_at.result ≡ ReadFault = cc in ap Err (read_so _ _ c.in-Err.fault (sym c.fault_at.ensures ∙ own)))
      (λ e. let own : c.in-Err.fault ≡ engine.ReadFault = cc in ap Err (c.fault_at.ensures ∙ ap (fault_at _ _) own)));
  log =
      let stored : List Stored = c.args.stored.now in
      let segment : Stored = c.index-stored-at.result in
      let lt : c.stored.at < length stored = omega arith in
      let named : segment ≡ segment_at stored c.stored.at = is_at stored c.stored.at segment lt c.index-stored-at.is in
      heads_more c.args.table.now stored c.stored.at segment (g.S.Shelf.held c.args.shelf.now) (g.S.Shelf.held c.stored.shelf) (g.S.Shelf.log c.args.shelf.now) (g.S.Shelf.log c.stored.shelf) (g.S.Shelf.log c.explain_segment.new.shelf) lt named
      c.stored.invariant.reads.held c.stored.invariant.log c.in-Err.ensures.looks.log;
}

pub returns-clause-lines : goal.returns-clause-lines
returns-clause-lines g c =
    let stored : List Stored = c.args.stored.now in
    let done : c.stored.at ≡ length stored = omega arith in
    subst (HasLines (plan_line c.args.query.now c.args.table.now) c.args.table.now (g.S.Shelf.held c.args.shelf.now) stored (length stored)) (sym c.from_vec.ensures)
    (subst (λ k. HasLines (plan_line c.args.query.now c.args.table.now) c.args.table.now (g.S.Shelf.held c.args.shelf.now) stored k c.stored.text.items) done c.stored.invariant.so_far)

pub returns-clause-looks : goal.returns-clause-looks
returns-clause-looks g c = record {
  bad = λ at part e. absurd (no_fault _ c.from_vec.result (NotASegment at part) e);
  only_reads = reads_as (seen g.S.Shelf c.args.shelf.now) (seen g.S.Shelf c.stored.shelf) c.stored.invariant.reads (λ e. absurd cc) (λ e. absurd e);
  log = c.stored.invariant.log;
}

pub returns-clause-opens : goal.returns-clause-opens
returns-clause-opens g c = λ at lt.
    let stored : List Stored = c.args.stored.now in
    let done : c.stored.at ≡ length stored = omega arith in
    c.stored.invariant.opens at (omega (arith, done, lt))
