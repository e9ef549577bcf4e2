use Rattle.column_reader.specs.Picked.{LogsPicked, LogsPickedPartly, IsPicked}
use Rattle.outside.specs.Series.{LogsPartOf, LogsTo}
use Rattle.std.proofs.Common.{rules, ◌≡◌, ◌+◌, ◌∷◌, [], ℕ, suc, ap, length-append, List, Option, None, false, refl, get_or, length, subst, take, arith}
use Rattle.outside.specs.Seen.{seen}
use Rattle.outside.proofs.SeenLemmas.{reads_none, reads_next, err_is}
use Rattle.doc_lists.specs.Docs.{docs_of}
use Rattle.column_reader.specs.Bytes.{GrowsBy, column_bytes, most_bytes}
use Rattle.column_reader.proofs.ByteLemmas.{bytes_more, grows_both, grows_none, grown_at}
use Rattle.segment_head.specs.declared.fault.EngineFault.{EngineFault}
use Rattle.segment_head.specs.declared.fault.EngineFault.TheVariants.{ReadFault}
use Rattle.column_reader.proofs.FaultLemmas.{fault_in}
use Rattle.outside.proofs.SeriesLemmas.{series_more, series_none, series_part}
use Rattle.column_reader.proofs.picking.pick_columns.Goals as goal

pub returns-in_err-all-clause-reads : goal.returns-in_err-all-clause-reads
returns-in_err-all-clause-reads g c = record {
  only_reads = search rules;
  log = search rules;
  log_of_fault =
      let log = g.S.Shelf.log c.args.shelf.now in
      let each = LogsPicked c.args.head.now c.args.runs.now c.args.named.now in
      let partly = LogsPickedPartly c.args.head.now c.args.runs.now c.args.named.now in
      err_is c.from_residual.result (LogsPartOf each partly (length c.args.named.now) log log) (series_none each partly (length c.args.named.now) log);
}

pub returns-in-Err-clause-reads : goal.returns-in-Err-clause-reads
returns-in-Err-clause-reads g c = record {
  only_reads = search rules;
  log = tt;
  log_of_fault =
      series_part (LogsPicked c.args.head.now c.args.runs.now c.args.named.now) (LogsPickedPartly c.args.head.now c.args.runs.now c.args.named.now) (length c.args.named.now) c.loop-column.column
      (g.S.Shelf.log c.args.shelf.now) (g.S.Shelf.log c.loop-column.shelf) (g.S.Shelf.log c.pick_named.new.shelf) c.loop-column-test.true c.loop-column.invariant.log c.in-Err.ensures.reads.log_of_fault;
}

pub returns-in_err-keep-clause-reads : goal.returns-in_err-keep-clause-reads
returns-in_err-keep-clause-reads g c = record {
  only_reads = search rules;
  log = search rules;
  log_of_fault =
      let each = LogsPicked c.args.head.now c.args.runs.now c.args.named.now in
      let partly = LogsPickedPartly c.args.head.now c.args.runs.now c.args.named.now in
      err_is c.from_residual-in_err-keep.result (LogsPartOf each partly (length c.args.named.now) (g.S.Shelf.log c.args.shelf.now) (g.S.Shelf.log c.pick_named.new.shelf))
      (series_more each partly (length c.args.named.now) c.loop-column.column (g.S.Shelf.log c.args.shelf.now) (g.S.Shelf.log c.loop-column.shelf) (g.S.Shelf.log c.pick_named.new.shelf) c.loop-column-test.true c.loop-column.invariant.log c.in-Ok.ensures.reads.log);
}

pub loop-column-preserved : goal.loop-column-preserved
loop-column-preserved g c =
    let i : ℕ = c.loop-column.column in
    let each = LogsPicked c.args.head.now c.args.runs.now c.args.named.now in
    let more : suc i ≡ i + 1 = omega arith in
    let held = g.S.Shelf.held c.args.shelf.now in
    let docs : List ℕ = docs_of c.args.runs.now in
    record {
      count = omega (arith, ap length c.in_ok-keep.ensures.ok, length-append c.loop-column.all.items (c.in-Ok.ids ∷ []), c.loop-column.invariant.count);
      ids = grown_at (λ column ids. IsPicked held c.args.head.now column (docs_of c.args.runs.now) (get_or c.args.named.now column false) ids) None c.loop-column.all.items c.keep.new.all.items c.in-Ok.ids i c.loop-column.invariant.count
          c.in_ok-keep.ensures.ok c.loop-column.invariant.ids
          (subst (λ h. IsPicked h c.args.head.now i (docs_of c.args.runs.now) (get_or c.args.named.now i false) c.in-Ok.ids) c.loop-column.invariant.only_reads.held c.in-Ok.ensures.ids);
      only_reads = reads_next (Option (List ℕ)) EngineFault c.in-Ok.ids ReadFault (seen g.S.Shelf c.args.shelf.now) (seen g.S.Shelf c.loop-column.shelf) (seen g.S.Shelf c.pick_named.new.shelf) c.loop-column.invariant.only_reads c.in-Ok.ensures.reads.only_reads;
      bytes = subst (λ n. GrowsBy (most_bytes (take n c.args.named.now) docs) (g.S.Shelf.log c.args.shelf.now) (g.S.Shelf.log c.pick_named.new.shelf)) more
          (grows_both (most_bytes (take i c.args.named.now) docs) (column_bytes docs (get_or c.args.named.now i false)) (most_bytes (take (suc i) c.args.named.now) docs) (g.S.Shelf.log c.args.shelf.now) (g.S.Shelf.log c.loop-column.shelf) (g.S.Shelf.log c.pick_named.new.shelf)
          (let sum = bytes_more docs c.args.named.now i c.loop-column-test.true in omega (arith, sum)) c.loop-column.invariant.bytes c.in-Ok.ensures.bytes);
      log = subst (λ n. LogsTo each n (g.S.Shelf.log c.args.shelf.now) (g.S.Shelf.log c.pick_named.new.shelf)) more (g.S.Shelf.log c.loop-column.shelf, c.loop-column.invariant.log, c.in-Ok.ensures.reads.log);
    }

pub loop-column-init : goal.loop-column-init
loop-column-init g c = record {
  count = ap length c.in_ok-all.ensures.items;
  ids = λ column lt. absurd (omega (arith, lt));
  only_reads = reads_none (seen g.S.Shelf c.args.shelf.now);
  bytes = grows_none (g.S.Shelf.log c.args.shelf.now);
  log = refl;
}

pub returns-in-Err-clause-fault : goal.returns-in-Err-clause-fault
returns-in-Err-clause-fault g c =
    fault_in (g.S.Shelf.held c.args.shelf.now) (g.S.Shelf.held c.loop-column.shelf) c.args.head.now c.args.named.now c.loop-column.column c.in-Err.fault c.loop-column.invariant.only_reads.held c.in-Err.ensures.fault

pub returns-clause-reads : goal.returns-clause-reads
returns-clause-reads g c = record {
  only_reads = search rules;
  log =
      let end : c.loop-column.column ≡ length c.args.named.now = omega arith in
      subst (λ n. LogsTo (LogsPicked c.args.head.now c.args.runs.now c.args.named.now) n (g.S.Shelf.log c.args.shelf.now) (g.S.Shelf.log c.loop-column.shelf)) end c.loop-column.invariant.log;
  log_of_fault = tt;
}
