use Rattle.std.proofs.Common.{rules, ◌≡◌, Bool, List, inl, refl, subst, arith}
use Rattle.std.specs.Prelude.{OnOk, OnErr, IfOk, IfSome}
use Rattle.segment_head.specs.Heads.{Seen}
use Rattle.scan_engine.specs.Scanned.{IsOverfull}
use Rattle.segment_scan.specs.Documents.{AddsDocs, LogsDocs, LogsDocsPartly, selected_docs}
use Rattle.segment_plan.specs.Named.{names_in}
use Rattle.segment_plan.specs.Served.{rest_of}
use Rattle.segment_scan.proofs.ImageLemmas.{loaded_readable}
use Rattle.segment_scan.proofs.LeftImage.{bad_left, marks_left, rest_loaded}
use Rattle.outside.proofs.SeenLemmas.{err_is}
use Rattle.segment_scan.proofs.SegmentLemmas.{mark_named, marks_few}
use Rattle.group_table.specs.Pooled.{in_pool}
use Rattle.segment_scan.proofs.left.scan_part.Goals as goal

pub returns-in_err-named-clause-reads : goal.returns-in_err-named-clause-reads
returns-in_err-named-clause-reads g c = record {
  only_reads = search rules;
  log = search rules;
  log_of_fault =
      let log = g.S.Shelf.log c.args.shelf.now in
      let names = names_in (rest_of c.args.answered.now.query.now c.args.choices.now) c.args.answered.now.table.now in
      err_is c.from_residual.result (LogsDocsPartly c.args.answered.now.head.now names c.args.docs.now log log) (inl refl);
}

pub scan_documents-requires-clause-readable : goal.scan_documents-requires-clause-readable
scan_documents-requires-clause-readable g c = record {
  at_most =
      let query = c.args.answered.now.query.now in
      let table = c.args.answered.now.table.now in
      let choices = c.args.choices.now in
      let named : List Bool = c.as_slice-named.result.now in
      let is : named ≡ names_in (rest_of query choices) table =
      marks_left query table choices named c.in_ok-named.named.items c.len.result c.len.ensures c.as_slice-named.ensures.value c.in_ok-named.ensures.count c.in_ok-named.ensures.each in
      marks_few (rest_of query choices) table named is c.requires.scans.valid;
  each =
      λ column marked.
      let query = c.args.answered.now.query.now in
      let table = c.args.answered.now.table.now in
      let head : Seen = c.args.answered.now.head.now in
      let choices = c.args.choices.now in
      let named : List Bool = c.as_slice-named.result.now in
      let is : named ≡ names_in (rest_of query choices) table =
      marks_left query table choices named c.in_ok-named.named.items c.len.result c.len.ensures c.as_slice-named.ensures.value c.in_ok-named.ensures.count c.in_ok-named.ensures.each in
      loaded_readable table head column c.requires.scans.of_table (rest_loaded query choices head c.requires.scans.loaded column (mark_named (rest_of query choices) table named is column marked));
}

pub returns-clause-ok : goal.returns-clause-ok
returns-clause-ok g c =
    let query = c.args.answered.now.query.now in
    let table = c.args.answered.now.table.now in
    let head : Seen = c.args.answered.now.head.now in
    let choices = c.args.choices.now in
    let named : List Bool = c.as_slice-named.result.now in
    let is : named ≡ names_in (rest_of query choices) table =
    marks_left query table choices named c.in_ok-named.named.items c.len.result c.len.ensures c.as_slice-named.ensures.value c.in_ok-named.ensures.count c.in_ok-named.ensures.each in
    subst (λ (l : List Bool). OnOk c.scan_documents.result (AddsDocs query choices (g.S.Shelf.held c.args.shelf.now) head l c.args.docs.now (in_pool c.args.groups.now c.args.pool.now) (in_pool c.scan_documents.new.groups c.scan_documents.new.pool))) is c.scan_documents.ensures.ok

pub returns-clause-full : goal.returns-clause-full
returns-clause-full g c = λ full.
    let query = c.args.answered.now.query.now in
    let table = c.args.answered.now.table.now in
    let head : Seen = c.args.answered.now.head.now in
    let choices = c.args.choices.now in
    let named : List Bool = c.as_slice-named.result.now in
    let is : named ≡ names_in (rest_of query choices) table =
    marks_left query table choices named c.in_ok-named.named.items c.len.result c.len.ensures c.as_slice-named.ensures.value c.in_ok-named.ensures.count c.in_ok-named.ensures.each in
    subst (λ (l : List Bool). IfSome (g.S.Shelf.held c.args.shelf.now) (λ files. IsOverfull query (selected_docs query choices files head l c.args.docs.now) (in_pool c.args.groups.now c.args.pool.now))) is (c.scan_documents.ensures.full full).over

pub returns-clause-filled : goal.returns-clause-filled
returns-clause-filled g c = λ full. (c.scan_documents.ensures.full full).filled

pub returns-clause-bad : goal.returns-clause-bad
returns-clause-bad g c = λ part bad.
    let query = c.args.answered.now.query.now in
    let table = c.args.answered.now.table.now in
    let head : Seen = c.args.answered.now.head.now in
    let choices = c.args.choices.now in
    let named : List Bool = c.as_slice-named.result.now in
    let is : named ≡ names_in (rest_of query choices) table =
    marks_left query table choices named c.in_ok-named.named.items c.len.result c.len.ensures c.as_slice-named.ensures.value c.in_ok-named.ensures.count c.in_ok-named.ensures.each in
    bad_left c.image_law.ensures (rest_of query choices) table (g.S.Shelf.held c.args.shelf.now) head c.requires.scans.valid c.requires.scans.of_table (rest_loaded query choices head c.requires.scans.loaded) named is part (c.scan_documents.ensures.bad part bad)

pub returns-clause-reads : goal.returns-clause-reads
returns-clause-reads g c = record {
  only_reads = search rules;
  log =
      let query = c.args.answered.now.query.now in
      let table = c.args.answered.now.table.now in
      let head : Seen = c.args.answered.now.head.now in
      let choices = c.args.choices.now in
      let named : List Bool = c.as_slice-named.result.now in
      let is : named ≡ names_in (rest_of query choices) table =
      marks_left query table choices named c.in_ok-named.named.items c.len.result c.len.ensures c.as_slice-named.ensures.value c.in_ok-named.ensures.count c.in_ok-named.ensures.each in
      subst (λ (l : List Bool). IfOk c.scan_documents.result (λ _. LogsDocs head l c.args.docs.now (g.S.Shelf.log c.args.shelf.now) (g.S.Shelf.log c.scan_documents.new.shelf))) is c.scan_documents.ensures.reads.log;
  log_of_fault =
      let query = c.args.answered.now.query.now in
      let table = c.args.answered.now.table.now in
      let head : Seen = c.args.answered.now.head.now in
      let choices = c.args.choices.now in
      let named : List Bool = c.as_slice-named.result.now in
      let is : named ≡ names_in (rest_of query choices) table =
      marks_left query table choices named c.in_ok-named.named.items c.len.result c.len.ensures c.as_slice-named.ensures.value c.in_ok-named.ensures.count c.in_ok-named.ensures.each in
      subst (λ (l : List Bool). OnErr c.scan_documents.result (LogsDocsPartly head l c.args.docs.now (g.S.Shelf.log c.args.shelf.now) (g.S.Shelf.log c.scan_documents.new.shelf))) is c.scan_documents.ensures.reads.log_of_fault;
}

pub scan_documents-requires-clause-docs : goal.scan_documents-requires-clause-docs
scan_documents-requires-clause-docs g c =
    let at_most = c.requires.scans.of_table.at_most in
    let rows = c.requires.scans.of_table.has.rows_are in
    record { few_rows = omega (arith, at_most, rows); within = c.requires.within }

pub scan_documents-requires-clause-room : goal.scan_documents-requires-clause-room
scan_documents-requires-clause-room g c = record { of_query = c.requires.scans.of_query; fits = c.requires.scans.fits }
