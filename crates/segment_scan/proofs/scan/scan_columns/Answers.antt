use Rattle.std.proofs.Common.{rules, ◌≡◌, ◌∙◌, ◌<◌, ◌-◌, ℕ, Bool, List, Option, None, Err, false, length, get_or, ap, sym, subst, arith}
use Rattle.values.specs.Columns.{rows_of}
use Rattle.agg_laws.specs.Numbers.{most_values}
use Rattle.group_table.specs.Kept.{groups_in}
use Rattle.scan_engine.specs.Scanned.{AddsRows, HaveAtMost, selected}
use Rattle.segment_head.specs.Heads.{Seen}
use Rattle.coded_columns.specs.declared.coded.Coded.{Coded}
use Rattle.coded_columns.specs.declared.coded.SegmentColumns.{SegmentColumns}
use Rattle.coded_columns.specs.Coded.{table_of}
use Rattle.column_reader.specs.Forward.{LogsSome}
use Rattle.segment_scan.specs.Scans.{IsCodedOf}
use Rattle.segment_scan.proofs.ScanLemmas.{coded-all, named-of, overfull-read, rows-read}
use Rattle.outside.proofs.SeenLemmas.{err_is}
use Rattle.column_reader.proofs.LogLemmas.{logs_all}
use Rattle.group_table.specs.Pooled.{in_pool}
use Rattle.segment_scan.proofs.scan.scan_columns.Goals as goal

pub coded_columns-requires-clause-loaded : goal.coded_columns-requires-clause-loaded
coded_columns-requires-clause-loaded g c = λ column list lt got.
    let within : column < length c.args.named.now = omega (arith, lt, ap length c.as_slice-ids.ensures.value, c.in-Ok.ensures.count) in
    let same : get_or c.in-Ok.ids.items column None ≡ get_or c.as_slice-ids.result.now column None = ap (λ (l : List (Option (List ℕ))). get_or l column None) (sym c.as_slice-ids.ensures.value) in
    (c.requires.readable.each column (named-of (g.S.Shelf.held c.args.shelf.now) c.args.head.now column (get_or c.args.named.now column false) (get_or c.in-Ok.ids.items column None) list (c.in-Ok.ensures.ids column within) (same ∙ got))).loaded

pub invariant_of-segment : goal.invariant_of-segment
invariant_of-segment g c =
    let held = g.S.Shelf.held c.args.shelf.now in
    let head : Seen = c.args.head.now in
    let named : List Bool = c.args.named.now in
    let ids : List (Option (List ℕ)) = c.in-Ok.ids.items in
    let lengths : length c.as_slice.result.now ≡ length named = ap length c.as_slice.ensures.value ∙ c.in_ok-columns.ensures.count ∙ ap length c.as_slice-ids.ensures.value ∙ c.in-Ok.ensures.count in
    let within : (column : ℕ) → column < length named → column < length c.as_slice-ids.result.now = λ column lt. omega (arith, lt, ap length c.as_slice-ids.ensures.value, c.in-Ok.ensures.count) in
    let of : (column : ℕ) → column < length named → IsCodedOf head column (get_or ids column None) (get_or c.as_slice.result.now column None) = λ column lt.
    subst (λ (l : List (Option (List ℕ))). IsCodedOf head column (get_or l column None) (get_or c.as_slice.result.now column None)) c.as_slice-ids.ensures.value
    (subst (λ (l : List (Option Coded)). IsCodedOf head column (get_or c.as_slice-ids.result.now column None) (get_or l column None)) (sym c.as_slice.ensures.value)
    (c.in_ok-columns.ensures.each column (within column lt))) in
    record { coded = coded-all held head named ids c.rows.result c.as_slice.result.now c.rows.ensures c.requires.few_rows lengths c.in-Ok.ensures.ids of }

pub add_coded-requires-clause-fits : goal.add_coded-requires-clause-fits
add_coded-requires-clause-fits g c = subst (λ n. HaveAtMost (most_values - n) (groups_in (in_pool c.args.groups.now c.args.pool.now))) (sym c.rows.ensures) c.requires.room.fits

pub returns-in-Ok-add_coded-clause-ok : goal.returns-in-Ok-add_coded-clause-ok
returns-in-Ok-add_coded-clause-ok g c =
    let held = g.S.Shelf.held c.args.shelf.now in
    let head : Seen = c.args.head.now in
    let named : List Bool = c.args.named.now in
    let ids : List (Option (List ℕ)) = c.in-Ok.ids.items in
    let lengths : length c.as_slice.result.now ≡ length named = ap length c.as_slice.ensures.value ∙ c.in_ok-columns.ensures.count ∙ ap length c.as_slice-ids.ensures.value ∙ c.in-Ok.ensures.count in
    let within : (column : ℕ) → column < length named → column < length c.as_slice-ids.result.now = λ column lt. omega (arith, lt, ap length c.as_slice-ids.ensures.value, c.in-Ok.ensures.count) in
    let of : (column : ℕ) → column < length named → IsCodedOf head column (get_or ids column None) (get_or c.as_slice.result.now column None) = λ column lt.
    subst (λ (l : List (Option (List ℕ))). IsCodedOf head column (get_or l column None) (get_or c.as_slice.result.now column None)) c.as_slice-ids.ensures.value
    (subst (λ (l : List (Option Coded)). IsCodedOf head column (get_or c.as_slice-ids.result.now column None) (get_or l column None)) (sym c.as_slice.ensures.value)
    (c.in_ok-columns.ensures.each column (within column lt))) in
    let segment : SegmentColumns = record { columns = c.as_slice.result; count = c.rows.result; coded = coded-all held head named ids c.rows.result c.as_slice.result.now c.rows.ensures c.requires.few_rows lengths c.in-Ok.ensures.ids of } in
    record {
      rows = selected c.args.query.now (rows_of (table_of segment));
      adds = subst (λ n. AddsRows c.args.query.now n (selected c.args.query.now (rows_of (table_of segment))) (in_pool c.args.groups.now c.args.pool.now) (in_pool c.add_coded.new.table c.add_coded.new.pool)) c.rows.ensures c.in-Ok-add_coded.ensures.adds.ok;
      told = rows-read held head named ids segment c.rows.ensures c.requires.few_rows lengths c.in-Ok.ensures.ids of c.args.query.now;
    }

pub returns-in-Err-TooManyGroups-clause-full : goal.returns-in-Err-TooManyGroups-clause-full
returns-in-Err-TooManyGroups-clause-full g c = λ bad.
    let held = g.S.Shelf.held c.args.shelf.now in
    let head : Seen = c.args.head.now in
    let named : List Bool = c.args.named.now in
    let ids : List (Option (List ℕ)) = c.in-Ok.ids.items in
    let lengths : length c.as_slice.result.now ≡ length named = ap length c.as_slice.ensures.value ∙ c.in_ok-columns.ensures.count ∙ ap length c.as_slice-ids.ensures.value ∙ c.in-Ok.ensures.count in
    let within : (column : ℕ) → column < length named → column < length c.as_slice-ids.result.now = λ column lt. omega (arith, lt, ap length c.as_slice-ids.ensures.value, c.in-Ok.ensures.count) in
    let of : (column : ℕ) → column < length named → IsCodedOf head column (get_or ids column None) (get_or c.as_slice.result.now column None) = λ column lt.
    subst (λ (l : List (Option (List ℕ))). IsCodedOf head column (get_or l column None) (get_or c.as_slice.result.now column None)) c.as_slice-ids.ensures.value
    (subst (λ (l : List (Option Coded)). IsCodedOf head column (get_or c.as_slice-ids.result.now column None) (get_or l column None)) (sym c.as_slice.ensures.value)
    (c.in_ok-columns.ensures.each column (within column lt))) in
    let segment : SegmentColumns = record { columns = c.as_slice.result; count = c.rows.result; coded = coded-all held head named ids c.rows.result c.as_slice.result.now c.rows.ensures c.requires.few_rows lengths c.in-Ok.ensures.ids of } in
    let full = c.in-Err-TooManyGroups.is ∙ ap Err c.in-Err-TooManyGroups.field-0-is in
    record {
      over = overfull-read held c.args.query.now head named (selected c.args.query.now (rows_of (table_of segment))) (in_pool c.args.groups.now c.args.pool.now)
          (rows-read held head named ids segment c.rows.ensures c.requires.few_rows lengths c.in-Ok.ensures.ids of c.args.query.now)
          (c.add_coded.ensures.adds.full full);
      filled = c.add_coded.ensures.adds.filled full;
    }

pub returns-in_err-columns-clause-reads : goal.returns-in_err-columns-clause-reads
returns-in_err-columns-clause-reads g c = record {
  only_reads = search rules;
  log = search rules;
  log_of_fault =
      err_is c.from_residual.result (LogsSome c.args.head.now c.args.named.now (g.S.Shelf.log c.args.shelf.now) (g.S.Shelf.log c.read_columns.new.shelf))
      (logs_all c.args.head.now c.args.named.now (g.S.Shelf.log c.args.shelf.now) (g.S.Shelf.log c.read_columns.new.shelf) c.in-Ok.ensures.reads.log);
}

pub returns-in-Err-TooManyGroups-clause-reads : goal.returns-in-Err-TooManyGroups-clause-reads
returns-in-Err-TooManyGroups-clause-reads g c = record {
  only_reads = search rules;
  log = tt;
  log_of_fault =
      logs_all c.args.head.now c.args.named.now (g.S.Shelf.log c.args.shelf.now) (g.S.Shelf.log c.read_columns.new.shelf) c.in-Ok.ensures.reads.log;
}

pub returns-clause-reads : goal.returns-clause-reads
returns-clause-reads g c = record {
  only_reads = search rules;
  log = tt;
  log_of_fault =
      logs_all c.args.head.now c.args.named.now (g.S.Shelf.log c.args.shelf.now) (g.S.Shelf.log c.read_columns.new.shelf) c.in-Ok.ensures.reads.log;
}

pub returns-in-Err-clause-reads : goal.returns-in-Err-clause-reads
returns-in-Err-clause-reads g c = record {
  only_reads = search rules;
  log = tt;
  log_of_fault = c.in-Err.ensures.reads.log_of_fault;
}

pub returns-in-Ok-add_coded-clause-reads : goal.returns-in-Ok-add_coded-clause-reads
returns-in-Ok-add_coded-clause-reads g c = record {
  only_reads = search rules;
  log = c.in-Ok.ensures.reads.log;
  log_of_fault = tt;
}
