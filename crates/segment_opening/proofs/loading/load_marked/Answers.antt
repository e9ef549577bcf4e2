use Rattle.std.proofs.Common.{◌<◌, false, IfSome, length, get_or, sym, subst, arith}
use Rattle.outside.specs.Seen.{Seen, seen}
use Rattle.segment_head.specs.Heads.{AreIn}
use Rattle.segment_reads.specs.Logs.{EndsBy}
use Rattle.segment_head.specs.Stored.{HasNoImage}
use Rattle.segment_opening.specs.Calls.{FailsColumn}
use Rattle.segment_opening.specs.Opened.{Grows, IsHeadIn}
use Rattle.segment_opening.proofs.HeadLemmas.{fails_before, grows_none, grows_then, loaded_more}
use Rattle.segment_reads.proofs.LogLemmas.{ends_still, entries_none, entries_then, reads_as, reads_none, reads_then}
use Rattle.segment_opening.proofs.loading.load_marked.Goals as goal

pub columns-init : goal.columns-init
columns-init g c = record {
  grows = grows_none c.args.table.now (g.S.Shelf.held c.args.shelf.now) c.args.head.now c.requires.of_table;
  loaded = λ k lt. absurd (omega (arith, lt));
  reads = reads_none (seen g.S.Shelf c.args.shelf.now);
  log = λ file end within ends. entries_none (EndsBy file end) (g.S.Shelf.log c.args.shelf.now);
}

pub columns-preserved : goal.columns-preserved
columns-preserved g c =
    let a : Seen = seen g.S.Shelf c.args.shelf.now in
    let b : Seen = seen g.S.Shelf c.columns.shelf in
    let d : Seen = seen g.S.Shelf c.load_if.new.shelf in
    let table = c.args.table.now in
    let marks = c.args.marks.now in
    let lt : c.columns.column < length table.schema.fields = omega arith in
    let same = c.columns.invariant.grows.sections_same in
    let grown : Grows table a.held c.columns.head c.load_if.new.head = subst (λ held. Grows table held c.columns.head c.load_if.new.head) c.columns.invariant.reads.held c.in-Ok.ensures.loads.grows in
    record {
      grows = grows_then table a.held c.args.head.now c.columns.head c.load_if.new.head c.columns.invariant.grows grown;
      loaded = loaded_more (λ k. get_or marks k false) c.columns.head c.load_if.new.head c.columns.column grown.loaded c.columns.invariant.loaded c.in-Ok.ensures.loaded;
      reads = reads_then a b d c.columns.invariant.reads (reads_as b d c.in-Ok.ensures.loads.only_reads (λ e. absurd e) (λ e. absurd cc));
      log = λ file end within ends. entries_then (EndsBy file end) a.log b.log d.log (c.columns.invariant.log file end within ends)
          (c.in-Ok.ensures.loads.log file end (subst (AreIn file) (sym same) within) (ends_still table c.args.head.now c.columns.head end same ends));
    }

pub returns-in-Err-clause-loads : goal.returns-in-Err-clause-loads
returns-in-Err-clause-loads g c =
    let a : Seen = seen g.S.Shelf c.args.shelf.now in
    let b : Seen = seen g.S.Shelf c.columns.shelf in
    let d : Seen = seen g.S.Shelf c.load_if.new.shelf in
    let table = c.args.table.now in
    let same = c.columns.invariant.grows.sections_same in
    let held = c.columns.invariant.reads.held in
    record {
      grows = tt;
      bad = λ part is name in_file.
          subst (λ held. IfSome held (λ files. HasNoImage table files name)) held
          (c.in-Err.ensures.loads.bad part is name (subst (λ held. IsHeadIn table held name c.columns.head) (sym held) (c.columns.invariant.grows.image name in_file)));
      named = λ part is.
          fails_before table a.held c.args.head.now c.columns.head part c.columns.invariant.grows.rows_same same
          (subst (λ held. FailsColumn table held c.columns.head part) held (c.in-Err.ensures.loads.named part is));
      never_full = c.in-Err.ensures.loads.never_full;
      only_reads = reads_then a b d c.columns.invariant.reads c.in-Err.ensures.loads.only_reads;
      log = λ file end within ends.
          entries_then (EndsBy file end) a.log b.log d.log (c.columns.invariant.log file end within ends)
          (c.in-Err.ensures.loads.log file end (subst (AreIn file) (sym same) within) (ends_still table c.args.head.now c.columns.head end same ends));
    }

pub returns-clause-loaded : goal.returns-clause-loaded
returns-clause-loaded g c = λ column lt marked. c.columns.invariant.loaded column (omega (arith, lt)) marked

pub returns-clause-loads : goal.returns-clause-loads
returns-clause-loads g c = record {
  grows = c.columns.invariant.grows;
  bad = λ part is. absurd cc;
  named = λ part is. absurd cc;
  never_full = λ is. cc;
  only_reads = reads_as (seen g.S.Shelf c.args.shelf.now) (seen g.S.Shelf c.columns.shelf) c.columns.invariant.reads (λ e. absurd cc) (λ e. absurd e);
  log = c.columns.invariant.log;
}
