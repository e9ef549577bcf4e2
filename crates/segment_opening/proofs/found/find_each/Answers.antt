use Rattle.std.proofs.Common.{◌≡◌, ◌∙◌, ◌+◌, ◌++◌, ◌∷◌, [], Global, Vec, List, Option, Some, IfSome, length, slice_get, take, sym, ap, subst, arith}
use Rattle.std.specs.List.{AllZip}
use Rattle.std.proofs.lemmas.List.{take_all}
use Rattle.outside.specs.Seen.{Seen, seen}
use Rattle.table_schema.specs.declared.query.Conjunct.{Conjunct}
use Rattle.segment_head.specs.declared.column_ids.Matched.{Matched}
use Rattle.segment_reads.specs.Logs.{EndsBy}
use Rattle.segment_reads.proofs.LogLemmas.{entries_none, entries_then, reads_as, reads_none, reads_then}
use Rattle.segment_opening.specs.Found.{IsFoundFor}
use Rattle.segment_opening.proofs.AskedLemmas.{found_more}
use Rattle.segment_opening.proofs.FoundLemmas.{looks_err}
use Rattle.segment_opening.proofs.found.find_each.Goals as goal

pub conjuncts-init : goal.conjuncts-init
conjuncts-init g c = record {
  found = subst (AllZip (IsFoundFor c.args.query.now c.args.table.now (g.S.Shelf.held c.args.shelf.now) c.args.head.now) []) (sym c.in_ok-found.ensures.items) tt;
  reads = reads_none (seen g.S.Shelf c.args.shelf.now);
  log = λ file end within ends. entries_none (EndsBy file end) (g.S.Shelf.log c.args.shelf.now);
}

pub returns-in-Ok-None-clause-looks : goal.returns-in-Ok-None-clause-looks
returns-in-Ok-None-clause-looks g c =
    let a : Seen = seen g.S.Shelf c.args.shelf.now in
    let b : Seen = seen g.S.Shelf c.conjuncts.shelf in
    let d : Seen = seen g.S.Shelf c.find_for.new.shelf in
    record {
      never_bad = λ part e. absurd cc;
      never_full = λ e. absurd cc;
      only_reads = reads_then a b d c.conjuncts.invariant.reads (reads_as b d c.in-Ok-None.ensures.looks.only_reads (λ e. absurd cc) (λ e. absurd cc));
      log = λ file end within ends. entries_then (EndsBy file end) a.log b.log d.log (c.conjuncts.invariant.log file end within ends) (c.in-Ok-None.ensures.looks.log file end within ends);
    }

pub returns-in-Err-clause-looks : goal.returns-in-Err-clause-looks
returns-in-Err-clause-looks g c =
    let a : Seen = seen g.S.Shelf c.args.shelf.now in
    let b : Seen = seen g.S.Shelf c.conjuncts.shelf in
    let d : Seen = seen g.S.Shelf c.find_for.new.shelf in
    let l = looks_err {B = Option (Vec Matched Global)} c.args.table.now c.in-Err.fault c.args.head.now b d c.in-Err.ensures.looks in
    record {
      never_bad = l.never_bad;
      never_full = l.never_full;
      only_reads = reads_then a b d c.conjuncts.invariant.reads l.only_reads;
      log = λ file end within ends. entries_then (EndsBy file end) a.log b.log d.log (c.conjuncts.invariant.log file end within ends) (l.log file end within ends);
    }

pub returns-in-Err-push-clause-looks : goal.returns-in-Err-push-clause-looks
returns-in-Err-push-clause-looks g c =
    let a : Seen = seen g.S.Shelf c.args.shelf.now in
    let b : Seen = seen g.S.Shelf c.conjuncts.shelf in
    let d : Seen = seen g.S.Shelf c.find_for.new.shelf in
    record {
      never_bad = λ part e. absurd cc;
      never_full = λ e. absurd cc;
      only_reads = reads_then a b d c.conjuncts.invariant.reads (reads_as b d c.in-Ok-Some.ensures.looks.only_reads (λ e. absurd cc) (λ e. absurd cc));
      log = λ file end within ends. entries_then (EndsBy file end) a.log b.log d.log (c.conjuncts.invariant.log file end within ends) (c.in-Ok-Some.ensures.looks.log file end within ends);
    }

pub returns-clause-looks : goal.returns-clause-looks
returns-clause-looks g c = record {
  never_bad = λ part e. absurd cc;
  never_full = λ e. absurd cc;
  only_reads = reads_as (seen g.S.Shelf c.args.shelf.now) (seen g.S.Shelf c.conjuncts.shelf) c.conjuncts.invariant.reads (λ e. absurd cc) (λ e. absurd e);
  log = c.conjuncts.invariant.log;
}

pub returns-clause-found : goal.returns-clause-found
returns-clause-found g c =
    let query = c.args.query.now in
    let past = c.conjuncts-test.false in
    let listed = ap length c.as_slice-conjuncts.ensures in
    subst (λ xs. AllZip (IsFoundFor query c.args.table.now (g.S.Shelf.held c.args.shelf.now) c.args.head.now) xs c.conjuncts.found.items) (take_all c.conjuncts.at query.conjuncts (omega (arith, past, listed))) c.conjuncts.invariant.found

pub conjuncts-preserved : goal.conjuncts-preserved
conjuncts-preserved g c =
    let a : Seen = seen g.S.Shelf c.args.shelf.now in
    let b : Seen = seen g.S.Shelf c.conjuncts.shelf in
    let d : Seen = seen g.S.Shelf c.find_for.new.shelf in
    let query = c.args.query.now in
    let table = c.args.table.now in
    let head = c.args.head.now in
    let held = g.S.Shelf.held c.args.shelf.now in
    let at = c.conjuncts.at in
    let m = c.in-Ok-Some.matched in
    let lt = c.conjuncts-test.true in
    let listed = ap length c.as_slice-conjuncts.ensures in
    let one : (conjunct : Conjunct) → slice_get query.conjuncts at ≡ Some conjunct → IsFoundFor query table b.held head conjunct m =
    subst (λ (o : Option Matched). IfSome o (λ m. (conjunct : Conjunct) → slice_get query.conjuncts at ≡ Some conjunct → IsFoundFor query table b.held head conjunct m)) c.in-Ok-Some.field-0-is c.in-Ok-Some.ensures.found in
    record {
      found = subst (AllZip (IsFoundFor query table held head) (take (at + 1) query.conjuncts)) (sym c.in-Ok.ensures)
          (found_more (IsFoundFor query table held head) query.conjuncts c.conjuncts.found.items at m (omega (arith, lt, listed)) c.conjuncts.invariant.found
          (λ conjunct there. subst (λ h. IsFoundFor query table h head conjunct m) c.conjuncts.invariant.reads.held (one conjunct there)));
      reads = reads_then a b d c.conjuncts.invariant.reads (reads_as b d c.in-Ok-Some.ensures.looks.only_reads (λ e. absurd e) (λ e. absurd cc));
      log = λ file end within ends. entries_then (EndsBy file end) a.log b.log d.log (c.conjuncts.invariant.log file end within ends) (c.in-Ok-Some.ensures.looks.log file end within ends);
    }
