use Rattle.std.proofs.Common.{◌≡◌, ◌∙◌, Some, slice_get, sym, ap, subst}
use Rattle.std.proofs.lemmas.Option.{slice_get-get_or}
use Rattle.outside.specs.Seen.{Seen, seen}
use Rattle.segment_head.specs.Heads.{OfWhole}
use Rattle.segment_reads.specs.Logs.{EndsBy}
use Rattle.segment_reads.proofs.LogLemmas.{entries_none, entries_then, reads_as, reads_none, reads_then}
use Rattle.segment_opening.specs.Emptied.{MatchesNone}
use Rattle.segment_opening.proofs.EmptyLemmas.{emptied_by}
use Rattle.segment_opening.proofs.emptied.is_emptied.Goals as goal

pub conjuncts-init : goal.conjuncts-init
conjuncts-init g c = record {
  reads = reads_none (seen g.S.Shelf c.args.shelf.now);
  log = λ file end within ends. entries_none (EndsBy file end) (g.S.Shelf.log c.args.shelf.now);
}

pub returns-in-Ok-true-clause-emptied : goal.returns-in-Ok-true-clause-emptied
returns-in-Ok-true-clause-emptied g c = λ e.
    let table = c.args.table.now in
    let query = c.args.query.now in
    let head = c.args.head.now in
    let listed = c.as_slice-conjuncts.result.now in
    let conjunct = c.index-conjuncts-at.result in
    let there : slice_get listed c.conjuncts.at ≡ Some conjunct = slice_get-get_or listed c.conjuncts.at conjunct c.conjuncts-test.true ∙ ap Some (sym c.index-conjuncts-at.is) in
    emptied_by table query c.requires.query (g.S.Shelf.held c.args.shelf.now) head c.conjuncts.at conjunct (ap (λ l. slice_get l c.conjuncts.at) (sym c.as_slice-conjuncts.ensures) ∙ there)
    (subst (λ h. OfWhole table h head (MatchesNone conjunct)) c.conjuncts.invariant.reads.held (c.in-Ok-true.ensures.none c.in-Ok-true.field-0-test))

pub returns-in-Ok-true-clause-looks : goal.returns-in-Ok-true-clause-looks
returns-in-Ok-true-clause-looks g c =
    let a : Seen = seen g.S.Shelf c.args.shelf.now in
    let b : Seen = seen g.S.Shelf c.conjuncts.shelf in
    let d : Seen = seen g.S.Shelf c.matches_none.new.shelf in
    record {
      never_bad = λ part e. absurd cc;
      never_full = λ e. absurd cc;
      only_reads = reads_then a b d c.conjuncts.invariant.reads (reads_as b d c.in-Ok-true.ensures.looks.only_reads (λ e. absurd cc) (λ e. absurd cc));
      log = λ file end within ends. entries_then (EndsBy file end) a.log b.log d.log (c.conjuncts.invariant.log file end within ends) (c.in-Ok-true.ensures.looks.log file end within ends);
    }

pub returns-in-Err-clause-looks : goal.returns-in-Err-clause-looks
returns-in-Err-clause-looks g c =
    let a : Seen = seen g.S.Shelf c.args.shelf.now in
    let b : Seen = seen g.S.Shelf c.conjuncts.shelf in
    let d : Seen = seen g.S.Shelf c.matches_none.new.shelf in
    record {
      never_bad = c.in-Err.ensures.looks.never_bad;
      never_full = c.in-Err.ensures.looks.never_full;
      only_reads = reads_then a b d c.conjuncts.invariant.reads c.in-Err.ensures.looks.only_reads;
      log = λ file end within ends. entries_then (EndsBy file end) a.log b.log d.log (c.conjuncts.invariant.log file end within ends) (c.in-Err.ensures.looks.log file end within ends);
    }

pub conjuncts-preserved : goal.conjuncts-preserved
conjuncts-preserved g c =
    let a : Seen = seen g.S.Shelf c.args.shelf.now in
    let b : Seen = seen g.S.Shelf c.conjuncts.shelf in
    let d : Seen = seen g.S.Shelf c.matches_none.new.shelf in
    record {
      reads = reads_then a b d c.conjuncts.invariant.reads (reads_as b d c.in-Ok-false.ensures.looks.only_reads (λ e. absurd e) (λ e. absurd cc));
      log = λ file end within ends. entries_then (EndsBy file end) a.log b.log d.log (c.conjuncts.invariant.log file end within ends) (c.in-Ok-false.ensures.looks.log file end within ends);
    }

pub returns-clause-looks : goal.returns-clause-looks
returns-clause-looks g c = record {
  never_bad = λ part e. absurd cc;
  never_full = λ e. absurd cc;
  only_reads = reads_as (seen g.S.Shelf c.args.shelf.now) (seen g.S.Shelf c.conjuncts.shelf) c.conjuncts.invariant.reads (λ e. absurd cc) (λ e. absurd e);
  log = c.conjuncts.invariant.log;
}
