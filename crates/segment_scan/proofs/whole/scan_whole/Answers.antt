use Rattle.std.proofs.Common.{rules, ◌≡◌, ◌∙◌, Bool, List, Option, false, length, get_or, ap, arith}
use Rattle.outside.specs.Files.{Files}
use Rattle.column_reader.specs.Forward.{LogsColumns, LogsSome}
use Rattle.segment_scan.specs.Images.{AddsWhole}
use Rattle.segment_plan.specs.Named.{names_in}
use Rattle.segment_scan.specs.Scans.{AddsSegment}
use Rattle.segment_scan.proofs.ImageLemmas.{loaded_readable}
use Rattle.outside.proofs.SeenLemmas.{err_is}
use Rattle.column_reader.proofs.LogLemmas.{err_so, logs_as, logs_none}
use Rattle.segment_scan.proofs.SegmentLemmas.{adds_whole, bad_whole, logs_names, mark_named, marks_are, marks_few, ok_so, overfull_whole}
use Rattle.group_table.specs.Pooled.{in_pool}
use Rattle.segment_scan.proofs.whole.scan_whole.Goals as goal

pub named_columns-requires : goal.named_columns-requires
named_columns-requires g c = let at_most = c.requires.room.valid.schema.at_most in omega (arith, at_most, c.len.ensures)

pub scan_columns-requires-clause-readable : goal.scan_columns-requires-clause-readable
scan_columns-requires-clause-readable g c = record {
  at_most =
      let named : List Bool = c.as_slice-named.result.now in
      let is : named ≡ names_in c.args.query.now c.args.table.now =
      marks_are c.args.query.now c.args.table.now named c.len.result c.len.ensures (ap length c.as_slice-named.ensures.value ∙ c.in_ok-named.ensures.count) (λ column lt. ap (λ (l : List Bool). get_or l column false) c.as_slice-named.ensures.value ∙ c.in_ok-named.ensures.each column lt) in
      marks_few c.args.query.now c.args.table.now named is c.requires.room.valid;
  each =
      λ column marked.
      let named : List Bool = c.as_slice-named.result.now in
      let is : named ≡ names_in c.args.query.now c.args.table.now =
      marks_are c.args.query.now c.args.table.now named c.len.result c.len.ensures (ap length c.as_slice-named.ensures.value ∙ c.in_ok-named.ensures.count) (λ column lt. ap (λ (l : List Bool). get_or l column false) c.as_slice-named.ensures.value ∙ c.in_ok-named.ensures.each column lt) in
      loaded_readable c.args.table.now c.args.head.now column c.requires.room.of_table (c.requires.room.loaded column (mark_named c.args.query.now c.args.table.now named is column marked));
}

pub scan_columns-requires-clause-few_rows : goal.scan_columns-requires-clause-few_rows
scan_columns-requires-clause-few_rows g c = let at_most = c.requires.room.of_table.at_most in let rows = c.requires.room.of_table.has.rows_are in omega (arith, at_most, rows)

pub returns-clause-ok : goal.returns-clause-ok
returns-clause-ok g c =
    let named : List Bool = c.as_slice-named.result.now in
    let held : Option Files = g.S.Shelf.held c.args.shelf.now in
    let is : named ≡ names_in c.args.query.now c.args.table.now =
    marks_are c.args.query.now c.args.table.now named c.len.result c.len.ensures (ap length c.as_slice-named.ensures.value ∙ c.in_ok-named.ensures.count) (λ column lt. ap (λ (l : List Bool). get_or l column false) c.as_slice-named.ensures.value ∙ c.in_ok-named.ensures.each column lt) in
    ok_so c.scan_columns.result (AddsSegment c.args.query.now held c.args.head.now named (in_pool c.args.groups.now c.args.pool.now) (in_pool c.scan_columns.new.groups c.scan_columns.new.pool)) (AddsWhole c.args.query.now c.args.table.now held c.args.head.now (in_pool c.args.groups.now c.args.pool.now) (in_pool c.scan_columns.new.groups c.scan_columns.new.pool))
    (adds_whole c.image_law.ensures c.args.query.now c.args.table.now held c.args.head.now c.requires.room.valid c.requires.room.of_table c.requires.room.loaded named is (in_pool c.args.groups.now c.args.pool.now) (in_pool c.scan_columns.new.groups c.scan_columns.new.pool))
    c.scan_columns.ensures.ok

pub returns-clause-full : goal.returns-clause-full
returns-clause-full g c = λ full.
    let named : List Bool = c.as_slice-named.result.now in
    let is : named ≡ names_in c.args.query.now c.args.table.now =
    marks_are c.args.query.now c.args.table.now named c.len.result c.len.ensures (ap length c.as_slice-named.ensures.value ∙ c.in_ok-named.ensures.count) (λ column lt. ap (λ (l : List Bool). get_or l column false) c.as_slice-named.ensures.value ∙ c.in_ok-named.ensures.each column lt) in
    overfull_whole c.image_law.ensures c.args.query.now c.args.table.now (g.S.Shelf.held c.args.shelf.now) c.args.head.now c.requires.room.valid c.requires.room.of_table c.requires.room.loaded named is (in_pool c.args.groups.now c.args.pool.now) (c.scan_columns.ensures.full full).over

pub returns-clause-filled : goal.returns-clause-filled
returns-clause-filled g c = λ full. (c.scan_columns.ensures.full full).filled

pub returns-clause-bad : goal.returns-clause-bad
returns-clause-bad g c = λ part bad.
    let named : List Bool = c.as_slice-named.result.now in
    let is : named ≡ names_in c.args.query.now c.args.table.now =
    marks_are c.args.query.now c.args.table.now named c.len.result c.len.ensures (ap length c.as_slice-named.ensures.value ∙ c.in_ok-named.ensures.count) (λ column lt. ap (λ (l : List Bool). get_or l column false) c.as_slice-named.ensures.value ∙ c.in_ok-named.ensures.each column lt) in
    bad_whole c.image_law.ensures c.args.query.now c.args.table.now (g.S.Shelf.held c.args.shelf.now) c.args.head.now c.requires.room.valid c.requires.room.of_table c.requires.room.loaded named is part (c.scan_columns.ensures.bad part bad)

pub returns-clause-reads : goal.returns-clause-reads
returns-clause-reads g c = record {
  only_reads = search rules;
  log =
      let named : List Bool = c.as_slice-named.result.now in
      let is : named ≡ names_in c.args.query.now c.args.table.now =
      marks_are c.args.query.now c.args.table.now named c.len.result c.len.ensures (ap length c.as_slice-named.ensures.value ∙ c.in_ok-named.ensures.count) (λ column lt. ap (λ (l : List Bool). get_or l column false) c.as_slice-named.ensures.value ∙ c.in_ok-named.ensures.each column lt) in
      ok_so c.scan_columns.result (LogsColumns c.args.head.now named (length named) (g.S.Shelf.log c.args.shelf.now) (g.S.Shelf.log c.scan_columns.new.shelf)) (LogsColumns c.args.head.now (names_in c.args.query.now c.args.table.now) (length c.args.table.now.schema.fields) (g.S.Shelf.log c.args.shelf.now) (g.S.Shelf.log c.scan_columns.new.shelf))
      (logs_names c.args.query.now c.args.table.now named is c.args.head.now (g.S.Shelf.log c.args.shelf.now) (g.S.Shelf.log c.scan_columns.new.shelf))
      c.scan_columns.ensures.reads.log;
  log_of_fault =
      let named : List Bool = c.as_slice-named.result.now in
      let is : named ≡ names_in c.args.query.now c.args.table.now =
      marks_are c.args.query.now c.args.table.now named c.len.result c.len.ensures (ap length c.as_slice-named.ensures.value ∙ c.in_ok-named.ensures.count) (λ column lt. ap (λ (l : List Bool). get_or l column false) c.as_slice-named.ensures.value ∙ c.in_ok-named.ensures.each column lt) in
      err_so c.scan_columns.result (LogsSome c.args.head.now named (g.S.Shelf.log c.args.shelf.now) (g.S.Shelf.log c.scan_columns.new.shelf)) (LogsSome c.args.head.now (names_in c.args.query.now c.args.table.now) (g.S.Shelf.log c.args.shelf.now) (g.S.Shelf.log c.scan_columns.new.shelf))
      (logs_as c.args.head.now named (names_in c.args.query.now c.args.table.now) (g.S.Shelf.log c.args.shelf.now) (g.S.Shelf.log c.scan_columns.new.shelf) is)
      c.scan_columns.ensures.reads.log_of_fault;
}

pub returns-in_err-named-clause-reads : goal.returns-in_err-named-clause-reads
returns-in_err-named-clause-reads g c = record {
  only_reads = search rules;
  log = search rules;
  log_of_fault =
      let log = g.S.Shelf.log c.args.shelf.now in
      err_is c.from_residual.result (LogsSome c.args.head.now (names_in c.args.query.now c.args.table.now) log log) (logs_none c.args.head.now (names_in c.args.query.now c.args.table.now) log);
}

pub scan_columns-requires-clause-room : goal.scan_columns-requires-clause-room
scan_columns-requires-clause-room g c = record { of_query = c.requires.room.of_query; fits = c.requires.room.fits }
