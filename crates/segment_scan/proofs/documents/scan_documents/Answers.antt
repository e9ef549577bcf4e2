use Rattle.std.proofs.Common.{rules, ◌≡◌, ◌∙◌, ◌<◌, ◌≤◌, ◌-◌, ℕ, Bool, List, Option, All, None, Err, inr, false, length, get_or, ap, sym, subst, arith}
use Rattle.values.specs.Columns.{rows_of}
use Rattle.agg_laws.specs.Numbers.{most_values}
use Rattle.doc_lists.specs.Docs.{docs_of}
use Rattle.group_table.specs.Kept.{groups_in}
use Rattle.index_reader.proofs.RunLemmas.{lasts_below}
use Rattle.scan_engine.specs.Scanned.{selected}
use Rattle.scan_engine.proofs.AddLemmas.{at_most_more}
use Rattle.scan_engine.proofs.RunLemmas.{adds_as_more}
use Rattle.segment_head.specs.Heads.{Seen}
use Rattle.coded_columns.specs.declared.coded.Coded.{Coded}
use Rattle.coded_columns.specs.declared.coded.SegmentColumns.{SegmentColumns}
use Rattle.coded_columns.specs.Coded.{table_of}
use Rattle.segment_scan.specs.Documents.{LogsDocsPartly}
use Rattle.column_reader.specs.Bytes.{GrowsBy, most_bytes}
use Rattle.column_reader.specs.Picked.{IsPicked, LogsPicked, LogsPickedPartly}
use Rattle.segment_scan.specs.Scans.{IsCodedOf}
use Rattle.segment_plan.specs.Served.{rest_of}
use Rattle.outside.proofs.SeenLemmas.{err_is}
use Rattle.segment_scan.proofs.PickLemmas.{docs-coded, docs-overfull, docs-read, docs_few, picked-of}
use Rattle.outside.proofs.SeriesLemmas.{series_all}
use Rattle.group_table.specs.Pooled.{in_pool}
use Rattle.segment_scan.proofs.documents.scan_documents.Goals as goal

pub pick_columns-requires : goal.pick_columns-requires
pick_columns-requires g c = record {
  readable = c.requires.readable;
  runs = record {
    few_rows = c.requires.docs.few_rows;
    apart = c.runs-runs.ensures.apart;
    within =
        lasts_below 0 c.runs-runs.result.now c.args.answered.now.head.now.rows c.runs-runs.ensures.apart (subst (All (λ doc. doc < c.args.answered.now.head.now.rows)) (sym c.runs-runs.ensures.docs) c.requires.docs.within);
  };
}

pub coded_columns-requires-clause-loaded : goal.coded_columns-requires-clause-loaded
coded_columns-requires-clause-loaded g c = λ column list lt got.
    let docs : List ℕ = docs_of c.runs-runs.result.now in
    let within : column < length c.args.named.now = omega (arith, lt, ap length c.as_slice-ids.ensures.value, c.in-Ok.ensures.count) in
    let same : get_or c.in-Ok.ids.items column None ≡ get_or c.as_slice-ids.result.now column None = ap (λ (l : List (Option (List ℕ))). get_or l column None) (sym c.as_slice-ids.ensures.value) in
    (c.requires.readable.each column (picked-of (g.S.Shelf.held c.args.shelf.now) c.args.answered.now.head.now column docs (get_or c.args.named.now column false) (get_or c.in-Ok.ids.items column None) list (c.in-Ok.ensures.ids column within) (same ∙ got))).loaded

pub invariant_of-segment : goal.invariant_of-segment
invariant_of-segment g c =
    let held = g.S.Shelf.held c.args.shelf.now in
    let head : Seen = c.args.answered.now.head.now in
    let named : List Bool = c.args.named.now in
    let docs : List ℕ = c.args.docs.now in
    let ids : List (Option (List ℕ)) = c.in-Ok.ids.items in
    let lengths : length c.as_slice.result.now ≡ length named = ap length c.as_slice.ensures.value ∙ c.in_ok-columns.ensures.count ∙ ap length c.as_slice-ids.ensures.value ∙ c.in-Ok.ensures.count in
    let within : (column : ℕ) → column < length named → column < length c.as_slice-ids.result.now = λ column lt. omega (arith, lt, ap length c.as_slice-ids.ensures.value, c.in-Ok.ensures.count) in
    let of : (column : ℕ) → column < length named → IsCodedOf head column (get_or ids column None) (get_or c.as_slice.result.now column None) = λ column lt.
    subst (λ (l : List (Option (List ℕ))). IsCodedOf head column (get_or l column None) (get_or c.as_slice.result.now column None)) c.as_slice-ids.ensures.value
    (subst (λ (l : List (Option Coded)). IsCodedOf head column (get_or c.as_slice-ids.result.now column None) (get_or l column None)) (sym c.as_slice.ensures.value)
    (c.in_ok-columns.ensures.each column (within column lt))) in
    let picked : (column : ℕ) → column < length named → IsPicked held head column docs (get_or named column false) (get_or ids column None) = λ column lt.
    subst (λ (l : List ℕ). IsPicked held head column l (get_or named column false) (get_or ids column None)) c.runs-runs.ensures.docs (c.in-Ok.ensures.ids column lt) in
    let at_most : length docs ≤ head.rows = docs_few docs head.rows c.runs-runs.ensures.ascends c.requires.docs.within in
    record { coded = docs-coded held head named docs ids c.len-2.result c.as_slice.result.now c.len-2.ensures (omega (arith, at_most, c.requires.docs.few_rows)) lengths picked of }

pub add_coded-requires-clause-fits : goal.add_coded-requires-clause-fits
add_coded-requires-clause-fits g c =
    at_most_more (groups_in (in_pool c.args.groups.now c.args.pool.now)) (most_values - length c.args.docs.now) (most_values - c.len-2.result) (omega (arith, c.len-2.ensures)) c.requires.room.fits

pub returns-in-Ok-add_coded-clause-count : goal.returns-in-Ok-add_coded-clause-count
returns-in-Ok-add_coded-clause-count g c = docs_few c.args.docs.now c.args.answered.now.head.now.rows c.runs-runs.ensures.ascends c.requires.docs.within

pub returns-in-Ok-add_coded-clause-ok : goal.returns-in-Ok-add_coded-clause-ok
returns-in-Ok-add_coded-clause-ok g c =
    let held = g.S.Shelf.held c.args.shelf.now in
    let head : Seen = c.args.answered.now.head.now in
    let named : List Bool = c.args.named.now in
    let docs : List ℕ = c.args.docs.now in
    let query = c.args.answered.now.query.now in
    let choices = c.args.choices.now in
    let ids : List (Option (List ℕ)) = c.in-Ok.ids.items in
    let lengths : length c.as_slice.result.now ≡ length named = ap length c.as_slice.ensures.value ∙ c.in_ok-columns.ensures.count ∙ ap length c.as_slice-ids.ensures.value ∙ c.in-Ok.ensures.count in
    let within : (column : ℕ) → column < length named → column < length c.as_slice-ids.result.now = λ column lt. omega (arith, lt, ap length c.as_slice-ids.ensures.value, c.in-Ok.ensures.count) in
    let of : (column : ℕ) → column < length named → IsCodedOf head column (get_or ids column None) (get_or c.as_slice.result.now column None) = λ column lt.
    subst (λ (l : List (Option (List ℕ))). IsCodedOf head column (get_or l column None) (get_or c.as_slice.result.now column None)) c.as_slice-ids.ensures.value
    (subst (λ (l : List (Option Coded)). IsCodedOf head column (get_or c.as_slice-ids.result.now column None) (get_or l column None)) (sym c.as_slice.ensures.value)
    (c.in_ok-columns.ensures.each column (within column lt))) in
    let picked : (column : ℕ) → column < length named → IsPicked held head column docs (get_or named column false) (get_or ids column None) = λ column lt.
    subst (λ (l : List ℕ). IsPicked held head column l (get_or named column false) (get_or ids column None)) c.runs-runs.ensures.docs (c.in-Ok.ensures.ids column lt) in
    let at_most : length docs ≤ head.rows = docs_few docs head.rows c.runs-runs.ensures.ascends c.requires.docs.within in
    let segment : SegmentColumns = record { columns = c.as_slice.result; count = c.len-2.result; coded = docs-coded held head named docs ids c.len-2.result c.as_slice.result.now c.len-2.ensures (omega (arith, at_most, c.requires.docs.few_rows)) lengths picked of } in
    let rows = selected (rest_of query choices) (rows_of (table_of segment)) in
    record {
      rows = rows;
      adds = adds_as_more query c.len-2.result (length docs) rows (in_pool c.args.groups.now c.args.pool.now) (in_pool c.add_coded.new.table c.add_coded.new.pool) (omega (arith, c.len-2.ensures)) c.in-Ok-add_coded.ensures.adds.ok;
      told = docs-read held head named docs ids segment c.len-2.ensures (omega (arith, at_most, c.requires.docs.few_rows)) c.requires.docs.within lengths picked of query choices;
    }

pub returns-in-Err-TooManyGroups-clause-full : goal.returns-in-Err-TooManyGroups-clause-full
returns-in-Err-TooManyGroups-clause-full g c = λ bad.
    let held = g.S.Shelf.held c.args.shelf.now in
    let head : Seen = c.args.answered.now.head.now in
    let named : List Bool = c.args.named.now in
    let docs : List ℕ = c.args.docs.now in
    let query = c.args.answered.now.query.now in
    let choices = c.args.choices.now in
    let ids : List (Option (List ℕ)) = c.in-Ok.ids.items in
    let lengths : length c.as_slice.result.now ≡ length named = ap length c.as_slice.ensures.value ∙ c.in_ok-columns.ensures.count ∙ ap length c.as_slice-ids.ensures.value ∙ c.in-Ok.ensures.count in
    let within : (column : ℕ) → column < length named → column < length c.as_slice-ids.result.now = λ column lt. omega (arith, lt, ap length c.as_slice-ids.ensures.value, c.in-Ok.ensures.count) in
    let of : (column : ℕ) → column < length named → IsCodedOf head column (get_or ids column None) (get_or c.as_slice.result.now column None) = λ column lt.
    subst (λ (l : List (Option (List ℕ))). IsCodedOf head column (get_or l column None) (get_or c.as_slice.result.now column None)) c.as_slice-ids.ensures.value
    (subst (λ (l : List (Option Coded)). IsCodedOf head column (get_or c.as_slice-ids.result.now column None) (get_or l column None)) (sym c.as_slice.ensures.value)
    (c.in_ok-columns.ensures.each column (within column lt))) in
    let picked : (column : ℕ) → column < length named → IsPicked held head column docs (get_or named column false) (get_or ids column None) = λ column lt.
    subst (λ (l : List ℕ). IsPicked held head column l (get_or named column false) (get_or ids column None)) c.runs-runs.ensures.docs (c.in-Ok.ensures.ids column lt) in
    let at_most : length docs ≤ head.rows = docs_few docs head.rows c.runs-runs.ensures.ascends c.requires.docs.within in
    let segment : SegmentColumns = record { columns = c.as_slice.result; count = c.len-2.result; coded = docs-coded held head named docs ids c.len-2.result c.as_slice.result.now c.len-2.ensures (omega (arith, at_most, c.requires.docs.few_rows)) lengths picked of } in
    let full = c.in-Err-TooManyGroups.is ∙ ap Err c.in-Err-TooManyGroups.field-0-is in
    record {
      over = docs-overfull held query choices head named docs (selected (rest_of query choices) (rows_of (table_of segment))) (in_pool c.args.groups.now c.args.pool.now)
          (docs-read held head named docs ids segment c.len-2.ensures (omega (arith, at_most, c.requires.docs.few_rows)) c.requires.docs.within lengths picked of query choices)
          (c.add_coded.ensures.adds.full full);
      filled = c.add_coded.ensures.adds.filled full;
    }

pub returns-in-Err-clause-reads : goal.returns-in-Err-clause-reads
returns-in-Err-clause-reads g c = record {
  only_reads = search rules;
  log = tt;
  log_of_fault =
      inr (c.runs-runs.result.now, c.runs-runs.ensures.apart, c.runs-runs.ensures.docs, c.in-Err.ensures.reads.log_of_fault);
}

pub returns-in_err-columns-clause-reads : goal.returns-in_err-columns-clause-reads
returns-in_err-columns-clause-reads g c = record {
  only_reads = search rules;
  log = search rules;
  log_of_fault =
      let old = g.S.Shelf.log c.args.shelf.now in
      let new = g.S.Shelf.log c.pick_columns.new.shelf in
      let runs = c.runs-runs.result.now in
      let each = LogsPicked c.args.answered.now.head.now runs c.args.named.now in
      let partly = LogsPickedPartly c.args.answered.now.head.now runs c.args.named.now in
      err_is c.from_residual.result (LogsDocsPartly c.args.answered.now.head.now c.args.named.now c.args.docs.now old new) (inr (runs, c.runs-runs.ensures.apart, c.runs-runs.ensures.docs, series_all each partly (length c.args.named.now) old new c.in-Ok.ensures.reads.log));
}

pub returns-in-Err-TooManyGroups-clause-reads : goal.returns-in-Err-TooManyGroups-clause-reads
returns-in-Err-TooManyGroups-clause-reads g c = record {
  only_reads = search rules;
  log = tt;
  log_of_fault =
      let old = g.S.Shelf.log c.args.shelf.now in
      let new = g.S.Shelf.log c.pick_columns.new.shelf in
      let runs = c.runs-runs.result.now in
      let each = LogsPicked c.args.answered.now.head.now runs c.args.named.now in
      let partly = LogsPickedPartly c.args.answered.now.head.now runs c.args.named.now in
      inr (runs, c.runs-runs.ensures.apart, c.runs-runs.ensures.docs, series_all each partly (length c.args.named.now) old new c.in-Ok.ensures.reads.log);
}

pub returns-clause-reads : goal.returns-clause-reads
returns-clause-reads g c = record {
  only_reads = search rules;
  log = tt;
  log_of_fault =
      let old = g.S.Shelf.log c.args.shelf.now in
      let new = g.S.Shelf.log c.pick_columns.new.shelf in
      let runs = c.runs-runs.result.now in
      let each = LogsPicked c.args.answered.now.head.now runs c.args.named.now in
      let partly = LogsPickedPartly c.args.answered.now.head.now runs c.args.named.now in
      inr (runs, c.runs-runs.ensures.apart, c.runs-runs.ensures.docs, series_all each partly (length c.args.named.now) old new c.in-Ok.ensures.reads.log);
}

pub returns-in-Ok-add_coded-clause-reads : goal.returns-in-Ok-add_coded-clause-reads
returns-in-Ok-add_coded-clause-reads g c = record {
  only_reads = search rules;
  log =
      let old = g.S.Shelf.log c.args.shelf.now in
      let new = g.S.Shelf.log c.pick_columns.new.shelf in (
        c.runs-runs.result.now,
        c.runs-runs.ensures.apart,
        c.runs-runs.ensures.docs,
        c.in-Ok.ensures.reads.log,
        subst (λ (l : List ℕ). GrowsBy (most_bytes c.args.named.now l) old new) c.runs-runs.ensures.docs c.in-Ok.ensures.bytes,
      );
  log_of_fault = tt;
}
